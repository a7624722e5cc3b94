-- A list after its opening questions is the list that is asked for: by their number it may be posted, and what it leaves is the public contract. Assumes nothing.
use Rattle.base.specs.Basics.{◌≡◌, ◌∙◌, ap, sym, subst, Bool, true, ◌&&◌, Option, List, ℕ, T, eqb, eqb→eq, leb, ℤ, length}
use Rattle.book_format.specs.Questions.{book_number}
use Rattle.base.proofs.Tests.{and_l, and_r}
use Rattle.requests.proofs.Emptied.{posted_list, with_opening}
use Rattle.requests.proofs.Lines.{lines_opening}
use Rattle.requests.proofs.Opened.{opening-zero}
use Rattle.log_format.specs.Noted.{emptied_by}
use Rattle.requests.specs.Logged.{PostedAfter}
use Rattle.requests.specs.Request.{lines_fit, lines_of, opening, opening_lines, opening_with, setting_of}
use Rattle.store.specs.Store.{given}
use Rattle.call_list.specs.Lines.{Even, ListedAfter}

-- columns that fit have one count, and so have the places
even_fit : (ids areas : List ℕ) (amounts : List ℤ) (places : List ℕ) → T (lines_fit (lines_of ids areas amounts (length places))) → Even ids areas amounts places
unfolding lines_fit
even_fit ids areas amounts places t =
    let n = length ids in
    let a = eqb (length areas) n in
    let z = eqb (length amounts) n in
    let p = eqb (length places) n in
    let rest = and_r (leb n 512) (a && (z && p)) t in
    let last = and_r a (z && p) rest in
    record {
      of_areas = eqb→eq (length areas) n (and_l a (z && p) rest);
      of_amounts = eqb→eq (length amounts) n (and_l z p last);
      of_places = eqb→eq (length places) n (and_r z p last);
    }

module _ (n : ℕ) (store : Option (List ℕ)) (ids areas : List ℕ) (amounts : List ℤ) (places s : List ℕ) (lent : Bool) (l : List ℕ) {number : ℕ}
    (book : n ≡ 0 → book_number s ≡ 0) (e : number ≡ opening_with (opening_lines n (lines_of ids areas amounts (length places))) (setting_of store) (given lent l) s) where
  -- a list that passes fits, and its lines pass what is asked before them
  passes : number ≡ 0 → (lines_fit (lines_of ids areas amounts (length places)) ≡ true) × (opening n (setting_of store) s ≡ 0)
  passes z =
      let v = lines_of ids areas amounts (length places) in
      lines_opening n (setting_of store) v s (with_opening (opening_lines n v) (setting_of store) (given lent l) s (sym e ∙ z))

  pub list_book : number ≡ 0 → book_number s ≡ 0
  list_book z = book (opening-zero n (setting_of store) s (passes z).1)

  pub list_even : number ≡ 0 → Even ids areas amounts places
  list_even z = even_fit ids areas amounts places (subst T (sym (passes z).0) tt)

  lines_pass : number ≡ 0 → opening (book_number s) (setting_of store) s ≡ 0
  lines_pass z = ap (λ (k : ℕ). opening k (setting_of store) s) (list_book z ∙ sym (opening-zero n (setting_of store) s (passes z).1)) ∙ (passes z).1

  -- with the lent log emptied where the list is accepted
  pub list_posted : {result : ℕ} {t left m : List ℕ} → ListedAfter number ids areas amounts places s result t left → m ≡ emptied_by lent result t l
      → PostedAfter n store (given lent l) ids areas amounts places s result t left l m
  list_posted {result} {t} {left} {m} p k =
      subst (λ (i : ℕ). PostedAfter n store (given lent l) ids areas amounts places s i t left l m) (sym p.asked)
      (posted_list n store ids areas amounts places s l lent e (p.bytes (setting_of store) lines_pass) (p.beside (setting_of store) lines_pass) (k ∙ ap (λ (i : ℕ). emptied_by lent i t l) p.asked))
