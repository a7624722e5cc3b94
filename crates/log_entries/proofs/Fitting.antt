-- A log that passes question 19 has the entries that are read from it. Assumes nothing.
use Rattle.base.specs.Basics.{◌≡◌, subst, sym, List, ℕ, ◌≤◌, T, length}
use Rattle.book_format.proofs.Passed.{length-trades_of}
use Rattle.book_format.specs.Book.{book_of, count_of_trades}
use Rattle.fields.specs.Field.{AllBytes}
use Rattle.log_format.proofs.Read.{entries_fit, fits_facts, fits_logged, length_entries_in}
use Rattle.log_format.specs.Fits.{log_fits}
use Rattle.log_format.specs.Log.{entries_of, count_of_entries}
use Rattle.log_entries.specs.Entries.{EntriesIn}

module _ (l s : List ℕ) (b : AllBytes l) (few : count_of_trades s ≤ 256) (h : T (log_fits l s)) where
  pub fitting_entries : EntriesIn (count_of_trades s) (entries_of s l) l
  unfolding entries_of
  fitting_entries = record { size = (fits_facts l s h).size; fit = entries_fit (count_of_trades s) l b (count_of_entries l); bytes = (fits_logged b few h).entries }

  pub fitting_count : length (entries_of s l) ≡ count_of_entries l
  unfolding entries_of
  fitting_count = length_entries_in (count_of_trades s) (count_of_entries l) l

  -- by the number of trades that are read from the book
  pub fitting_trades : EntriesIn (length (book_of s).trades) (entries_of s l) l
  unfolding book_of
  fitting_trades = subst (λ (m : ℕ). EntriesIn m (entries_of s l) l) (sym (length-trades_of s)) fitting_entries
