-- Why bytes are no spelling. The first offence from the left decides: the fields before it are some value's, and may
-- stand there.
use Rattle.std.specs.Prelude.{◌≡◌, ◌≢◌, ◌⊎◌, ℕ, ◌^◌, ◌<◌, false, List, [], ◌∷◌, ◌++◌, length, Option, Result, Ok, Err}
use Rattle.record.specs.Common.{ImageView}
use Rattle.ckpt_codec.specs.Fields.{Field, AreAllowed, number_text, text_of}
use Rattle.ckpt_codec.specs.RecordText.{record_fields, image_fields, version_field, IsRecordText}
use Rattle.ckpt_codec.specs.HeaderText.{header_fields, IsHeaderText, IsImageText}
use Rattle.ckpt_codec.specs.declared.fault.CodecFault.{CodecFault}
use Rattle.ckpt_codec.specs.declared.fault.CodecFault.TheVariants.{NoMemory, Truncated, Version, Malformed}

-- a place in the fields of some value: those before it may stand where they do, and this field comes next
pub record Place {X : Type 0} (fields_of : X → List Field) : Type 0 where
  pub value : X
  pub before : List Field
  pub next : Field
  pub after : List Field
  pub fields : fields_of value ≡ before ++ next ∷ after
  pub allowed : AreAllowed before

-- the bytes end where a field wants more
pub record EndsEarly {X : Type 0} (fields_of : X → List Field) (bytes : List ℕ) : Type 0 where
  pub at : Place fields_of
  pub left : List ℕ
  pub parts : bytes ≡ text_of at.before ++ left
  pub short : length left < at.next.width

-- a number that can't stand in its field
pub record HasRuledOut {X : Type 0} (fields_of : X → List Field) (bytes : List ℕ) : Type 0 where
  pub at : Place fields_of
  pub value : ℕ
  pub rest : List ℕ
  pub parts : bytes ≡ text_of at.before ++ (number_text at.next.width value ++ rest)
  pub wide : value < 256 ^ at.next.width
  pub refused : at.next.allows value ≡ false

-- something follows a whole spelling
pub record GoesOn {X : Type 0} (Spells : X → List ℕ → Type 0) (bytes : List ℕ) : Type 0 where
  pub kept : X
  pub front : List ℕ
  pub rest : List ℕ
  pub is : Spells kept front
  pub parts : bytes ≡ front ++ rest
  pub more : rest ≢ []

-- ---- what begins with a version

-- a value, in some version
pub record In (X : Type 0) : Type 0 where
  pub version : ℕ
  pub kept : X

abbrev pub in_version : {X : Type 0} → (ℕ → X → List Field) → In X → List Field
in_version fields x = fields x.version x.kept

-- a number that can't stand in its field, behind the version
pub record HasRuledOutBehind {X : Type 0} (fields : ℕ → X → List Field) (bytes : List ℕ) : Type 0 where
  pub out : HasRuledOut (in_version fields) bytes
  pub behind : out.at.before ≢ []

-- the first byte is another version's
pub record IsOfAnotherVersion (bytes : List ℕ) : Type 0 where
  pub version : ℕ
  pub rest : List ℕ
  pub parts : bytes ≡ version ∷ rest
  pub other : (version_field version).allows version ≡ false

abbrev pub IsVersionedFault : {X : Type 0} → (ℕ → X → List Field) → (X → List ℕ → Type 0) → List ℕ → CodecFault
    → Type 0
IsVersionedFault fields Spells bytes NoMemory = Unit {0}
IsVersionedFault fields Spells bytes Truncated = EndsEarly (in_version fields) bytes
IsVersionedFault fields Spells bytes Version = IsOfAnotherVersion bytes
IsVersionedFault fields Spells bytes Malformed = HasRuledOutBehind fields bytes ⊎ GoesOn Spells bytes

-- ---- records

abbrev pub IsTruncated : List ℕ → Type 0
IsTruncated bytes = EndsEarly (in_version record_fields) bytes

abbrev pub IsRuledOut : List ℕ → Type 0
IsRuledOut bytes = HasRuledOutBehind record_fields bytes

abbrev pub IsTooMuch : List ℕ → Type 0
IsTooMuch bytes = GoesOn IsRecordText bytes

abbrev pub IsCodecFault : List ℕ → CodecFault → Type 0
IsCodecFault bytes NoMemory = Unit {0}
IsCodecFault bytes Truncated = IsTruncated bytes
IsCodecFault bytes Version = IsOfAnotherVersion bytes
IsCodecFault bytes Malformed = IsRuledOut bytes ⊎ IsTooMuch bytes

-- ---- headers and images

abbrev pub IsHeaderFault : List ℕ → CodecFault → Type 0
IsHeaderFault bytes fault = IsVersionedFault header_fields IsHeaderText bytes fault

-- an image like this one, where there is one
abbrev pub IsImageFault : Option ImageView → List ℕ → CodecFault → Type 0
IsImageFault like bytes NoMemory = Unit {0}
IsImageFault like bytes Truncated = EndsEarly (image_fields like) bytes
IsImageFault like bytes Version = ⊥
IsImageFault like bytes Malformed = HasRuledOut (image_fields like) bytes ⊎ GoesOn (IsImageText like) bytes

-- the numbers of the refusals
abbrev pub refusal_number : CodecFault → ℕ
refusal_number NoMemory = 1
refusal_number Truncated = 30
refusal_number Version = 31
refusal_number Malformed = 32

-- this value is answered, unless memory runs out
abbrev pub IsReadUnlessMemory : {X : Type 0} → X → Result X CodecFault → Type 0
IsReadUnlessMemory kept (Ok found) = found ≡ kept
IsReadUnlessMemory kept (Err fault) = fault ≡ NoMemory

-- this refusal is answered, unless memory runs out
abbrev pub IsRefusedUnlessMemory : {X : Type 0} → CodecFault → Result X CodecFault → Type 0
IsRefusedUnlessMemory fault (Ok found) = fault ≡ NoMemory
IsRefusedUnlessMemory fault (Err other) = (fault ≡ NoMemory) ⊎ ((other ≡ NoMemory) ⊎ (other ≡ fault))
