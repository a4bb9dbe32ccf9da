-- The lines of items are a text of these items.
use Rattle.std.proofs.Common.{ℕ, suc, ◌^◌, ◌<◌, ◌≤◌, Bool, true, false, if◌then◌else◌, List, [], ◌∷◌, ℤ, pos, negsuc}
use Rattle.std.proofs.Common.{refl, append_assoc, arith}
use Rattle.std.proofs.lemmas.Fmt.{decimal_is_IsNumeral}
use Rattle.std.specs.Fmt.{decimal}
use Rattle.item_text.specs.Items.{largest}
use Rattle.item_text.specs.Lines.{AreItems, lines_of}
use Rattle.item_text.specs.Texts.{IsNumber, IsItemsText}

digits_spell : (negative : Bool) (n : ℕ) → n < 2 ^ 64 → n ≤ largest negative
    → IsNumber negative n (if negative then 45 ∷ decimal n else decimal n)
digits_spell negative n small fits = record {
  digits = decimal n;
  whole = refl;
  numeral = (decimal_is_IsNumeral n small).0;
  value = (decimal_is_IsNumeral n small).1;
  in_range = fits;
}

pub lines_spell : (items : List ℤ) → AreItems items → IsItemsText items (lines_of items)
lines_spell [] each = tt
lines_spell (pos n ∷ items) each =
    let range : n < 2 ^ 63 = each.0.sfits in
    record {
      gap = [];
      negative = false;
      magnitude = n;
      number = decimal n;
      byte = 10;
      rest = lines_of items;
      whole = append_assoc (decimal n) (10 ∷ []) (lines_of items);
      is_gap = tt;
      is_number = digits_spell false n (omega (arith, range)) (omega (arith, range));
      item_is = refl;
      ends = refl;
      goes = lines_spell items each.1;
    }
lines_spell (negsuc n ∷ items) each =
    let range : n < 2 ^ 63 = each.0.sfits in
    record {
      gap = [];
      negative = true;
      magnitude = suc n;
      number = 45 ∷ decimal (suc n);
      byte = 10;
      rest = lines_of items;
      whole = append_assoc (45 ∷ decimal (suc n)) (10 ∷ []) (lines_of items);
      is_gap = tt;
      is_number = digits_spell true (suc n) (omega (arith, range)) (omega (arith, range));
      item_is = refl;
      ends = refl;
      goes = lines_spell items each.1;
    }
