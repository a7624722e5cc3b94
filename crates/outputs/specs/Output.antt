-- What a call that writes to a lent output gives. Document 02, ask 7: "every refusal leaves the output unchanged. A longer output keeps its
-- rest."; ask 13: "a refusal leaves the output unchanged and a longer output keeps its rest". Assumes nothing.
use Rattle.std.specs.Prelude.{List, ◌++◌, ◌≡◌, ℕ, length, drop}
use Rattle.rules.specs.Questions.{Question, after, refusal}

-- the number of the call, and the output after it
pub record Output : Type 0 where
  pub number : ℕ
  pub bytes : List ℕ

-- "a refusal leaves the output unchanged"
unfoldable pub refused : List ℕ → ℕ → Output
refused out n = record { number = n; bytes = out }

-- "a longer output keeps its rest"
unfoldable pub accepted : List ℕ → List ℕ → Output
accepted bytes out = record { number = 0; bytes = bytes ++ drop (length bytes) out }

-- what is written where all questions are answered by yes
unfoldable pub written : List Question → List ℕ → List ℕ → Output
written questions bytes out = after (refusal questions) (refused out) (accepted bytes out)

-- the same where the opening questions are answered already, by their number
unfoldable pub written_after : ℕ → List Question → List ℕ → List ℕ → Output
written_after opening questions bytes out = after opening (refused out) (written questions bytes out)

-- the contract of such a call: its number, and every byte of the output afterwards
pub record Wrote (given : Output) (number : ℕ) (out : List ℕ) : Type 0 where
  pub answer : number ≡ given.number
  pub output : out ≡ given.bytes
