-- Records of fields of widths ws, one after the other, and the same field by field: all first fields, all second fields, and so on. Over any
-- widths and any number of records. Assumes nothing.
use Rattle.std.specs.Prelude.{Bool, cond, List, [], ◌∷◌, ◌++◌, map, ℕ, ◌*◌, take, drop, replicate}
use Rattle.fields.specs.Layout.{records_of, bytes_of_records, size}

-- ---- records to columns

-- all first fields of records, then all second fields, ..
unfoldable pub field_wise : List ℕ → List (List ℕ) → List ℕ
field_wise [] rs = []
field_wise (w ∷ ws) rs = bytes_of_records (take w) rs ++ field_wise ws (map (drop w) rs)

-- the n records that bytes are, field by field
unfoldable pub laid_by_field : List ℕ → ℕ → List ℕ → List ℕ
laid_by_field ws n s = field_wise ws (records_of (size ws) (λ c. c) n s)

-- ---- columns to records

-- each list followed by its fellow
unfoldable pub joined : List (List ℕ) → List (List ℕ) → List (List ℕ)
joined [] qs = []
joined (p ∷ ps) [] = []
joined (p ∷ ps) (q ∷ qs) = (p ++ q) ∷ joined ps qs

-- the n records whose fields stand column after column
unfoldable pub record_wise : List ℕ → ℕ → List ℕ → List (List ℕ)
record_wise [] n s = replicate n []
record_wise (w ∷ ws) n s = joined (records_of w (λ c. c) n s) (record_wise ws n (drop (w * n) s))

-- the columns that bytes are, record by record
unfoldable pub laid_by_record : List ℕ → ℕ → List ℕ → List ℕ
laid_by_record ws n s = bytes_of_records (λ c. c) (record_wise ws n s)

-- ---- either way

-- columns record by record where `back` is yes, else records field by field
unfoldable pub arranged : Bool → List ℕ → ℕ → List ℕ → List ℕ
arranged back ws n s = cond back (laid_by_record ws n s) (laid_by_field ws n s)
