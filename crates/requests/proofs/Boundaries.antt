-- Figures at the boundaries of the questions that document 02 adds to calls, at the prices of document 01's figures: 15 of a list, 24 and 25 of a whole cancellation. Assumes nothing.
use Rattle.base.specs.Basics.{◌≡◌, refl, true, false, ℕ, pos, replicate}
use Rattle.rules.proofs.Figures.{amounts, book_of, book_with, cut_before, first, positioned, prices, sale, selling, trade, two, user}
use Rattle.rules.proofs.Opened.{opened}
use Rattle.rules.specs.Levels.{today}
use Rattle.rules.specs.Questions.{refusal}
use Rattle.requests.specs.Cancellation.{about_cancellation, tries_in_range, whole_worth, worth_suffices}
use Rattle.requests.specs.Request.{lines_fit, lines_of}

-- the first of a cancellation's own questions that is answered by no: user 101 has a target, and two sales of 3 and 4 MWh worth 14,000 together; a number of tries
unfoldable pub own : ℕ → ℕ → ℕ
own asked tries = refusal (about_cancellation today (selling asked 3 4) 101 tries)

-- a list of so many ids, areas, amounts and places fits
abbrev Fits : ℕ → ℕ → ℕ → ℕ → Type 0
Fits ids areas amounts places = lines_fit (lines_of (replicate ids 101) (replicate areas 0) (replicate amounts (pos 1)) places) ≡ true

abbrev Unfit : ℕ → ℕ → ℕ → ℕ → Type 0
Unfit ids areas amounts places = lines_fit (lines_of (replicate ids 101) (replicate areas 0) (replicate amounts (pos 1)) places) ≡ false

pub record Boundaries : Type 0 where
  -- "A list above 512 lines, or one whose columns and places differ in count, is refused with 15"
  pub lines_0 : Fits 0 0 0 0
  pub lines_512 : Fits 512 512 512 512
  pub lines_513 : Unfit 513 513 513 513
  pub ids_fewer : Unfit 1 2 2 2
  pub areas_fewer : Unfit 2 1 2 2
  pub amounts_fewer : Unfit 2 2 1 2
  pub places_fewer : Unfit 2 2 2 1
  -- "a number of tries from 1 to 65,535", else 25
  pub tries_0 : own 2000 0 ≡ 25
  pub tries_1 : own 2000 1 ≡ 0
  pub tries_65535 : own 2000 65535 ≡ 0
  pub tries_65536 : own 2000 65536 ≡ 25
  -- "If all eligible trades together are worth less than T it is refused with 24": at exactly T it is not
  pub worth_of_the_target : own 14000 1 ≡ 0
  pub worth_a_cent_less : own 14001 1 ≡ 24

pub boundaries : Boundaries
unfolding opened prices amounts user positioned trade sale book_of two first book_with cut_before selling own about_cancellation tries_in_range worth_suffices whole_worth lines_fit
boundaries =
    record {
      lines_0 = refl;
      lines_512 = refl;
      lines_513 = refl;
      ids_fewer = refl;
      areas_fewer = refl;
      amounts_fewer = refl;
      places_fewer = refl;
      tries_0 = refl;
      tries_1 = refl;
      tries_65535 = refl;
      tries_65536 = refl;
      worth_of_the_target = refl;
      worth_a_cent_less = refl;
    }
