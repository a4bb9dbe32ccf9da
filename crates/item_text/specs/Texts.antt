-- Which texts are items, said without a machine.
use Rattle.std.specs.Prelude.{◌≡◌, ℕ, ◌≤◌, Bool, true, if◌then◌else◌, List, [], ◌∷◌, ◌++◌, ℤ, None}
use Rattle.std.specs.List.{AllByRecursion}
use Rattle.std.specs.Str.Parse.{IsNumeral, digits_value}
use Rattle.item_text.specs.declared.token.Token.{Token}
use Rattle.item_text.specs.Items.{Reading, is_separator, largest, signed}

-- one decimal digit or more, behind a minus or none, that write this magnitude, within the signed 64 bits
pub record IsNumber (negative : Bool) (magnitude : ℕ) (text : List ℕ) : Type 0 where
  pub digits : List ℕ
  pub whole : text ≡ (if negative then 45 ∷ digits else digits)
  pub numeral : IsNumeral 10 digits
  pub value : digits_value 10 digits ≡ magnitude
  pub in_range : magnitude ≤ largest negative

-- separators alone
abbrev pub IsGap : List ℕ → Type 0
IsGap text = AllByRecursion (λ byte. is_separator byte ≡ true) text

-- a gap, a number that is this item, a separator, and what follows it
pub record Begins (item : ℤ) (Rest : List ℕ → Type 0) (text : List ℕ) : Type 0 where
  pub gap : List ℕ
  pub negative : Bool
  pub magnitude : ℕ
  pub number : List ℕ
  pub byte : ℕ
  pub rest : List ℕ
  pub whole : text ≡ gap ++ (number ++ byte ∷ rest)
  pub is_gap : IsGap gap
  pub is_number : IsNumber negative magnitude number
  pub item_is : item ≡ signed negative magnitude
  pub ends : is_separator byte ≡ true
  pub goes : Rest rest

-- these items, each with a gap before it or none and a separator behind it, and a gap at the end
abbrev pub IsItemsText : List ℤ → List ℕ → Type 0
IsItemsText [] text = IsGap text
IsItemsText (item ∷ items) text = Begins item (IsItemsText items) text

-- these items were read, this token stands at the end, and there is no fault
pub record Stands (token : Token) (items : List ℤ) (r : Reading) : Type 0 where
  pub token_is : r.token ≡ token
  pub items_are : r.items ≡ items
  pub no_fault : r.fault ≡ None
