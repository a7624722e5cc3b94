-- Document 02, ask 13: "The rule is shown over field width and record count, for all versions together." Assumes nothing.
use Rattle.std.specs.Prelude.{List, ◌≡◌, ℕ, ◌*◌, length}
use Rattle.fields.specs.Layout.{size}
use Rattle.columns.specs.Columns.{laid_by_field, laid_by_record}

-- of any field widths and any number of records: records to columns and back, and columns to records and back, are the same bytes; neither
-- adds or drops one
pub record Rearranges (ws : List ℕ) (n : ℕ) : Type 0 where
  pub records : (s : List ℕ) → length s ≡ size ws * n → laid_by_record ws n (laid_by_field ws n s) ≡ s
  pub columns : (s : List ℕ) → length s ≡ size ws * n → laid_by_field ws n (laid_by_record ws n s) ≡ s
  pub fields_long : (s : List ℕ) → length s ≡ size ws * n → length (laid_by_field ws n s) ≡ size ws * n
  pub records_long : (s : List ℕ) → length s ≡ size ws * n → length (laid_by_record ws n s) ≡ size ws * n
