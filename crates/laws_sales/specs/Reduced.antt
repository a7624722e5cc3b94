-- What a reduction of a user for an amount does to a book, said of the user's own sales alone. Assumes nothing.
use Rattle.std.specs.Prelude.{◌≡◌, ◌||◌}
use Rattle.base.specs.Basics.{Bool, List, map, ℕ, take}
use Rattle.laws_sales.specs.Parties.{cut_before}
use Rattle.laws.specs.Trades.{Lowered, Pairwise}
use Rattle.rules.specs.Book.{Book, User, Trade}
use Rattle.rules.specs.Calls.{Result, answer_of_cuts}
use Rattle.rules.specs.Reduction.{cut_all, settle, tally_all, nothing}
use Rattle.laws_sales.specs.Borne.{borne_book, borne_result, borne_user}
use Rattle.laws_sales.specs.Kept.{kept, spread}
use Rattle.laws_sales.specs.Sales.{own_sale, short_at, sale_cuts, is_party, some_cut}

-- the user's own sales by a test for each id
abbrev pub sales_by : (ℕ → Trade → Bool) → Book → User → List Trade
sales_by own b u = kept (own u.party.id) b.trades

-- and what each of them loses
abbrev pub cuts_by : (ℕ → Trade → Bool) → Book → User → ℕ → List ℕ
cuts_by own b u asked = sale_cuts b.header.prices (short_at u) asked (sales_by own b u)

-- by the seller
abbrev pub own_sales : Book → User → List Trade
own_sales b u = sales_by own_sale b u

abbrev pub own_cuts : Book → User → ℕ → List ℕ
own_cuts b u asked = cuts_by own_sale b u asked

-- the users after the cuts of the first of them, as many as a number says
abbrev pub settled_first : (ℕ → Trade → Bool) → Book → User → ℕ → ℕ → List User
settled_first own b u asked n = settle (sales_by own b u) (cut_all (take n (cuts_by own b u asked)) (sales_by own b u)) b.users

-- the result of a reduction by tests of whose sale a trade is
pub record ReducedOf (sale : ℕ → Trade → Bool) (b : Book) (u : User) (asked : ℕ) (r : Result Book) : Type 0 where
  pub header : r.book.header ≡ b.header
  -- each own sale stands lower by its cut, at its place; all other trades are as they were
  pub trades : r.book.trades ≡ cut_all (spread (sale u.party.id) b.trades (cuts_by sale b u asked)) b.trades
  pub lowered : Pairwise Lowered b.trades r.book.trades
  -- the positions are settled sale by sale
  pub users : r.book.users ≡ settle (sales_by sale b u) (cut_all (cuts_by sale b u asked) (sales_by sale b u)) b.users
  pub parties : map (λ v. v.party) r.book.users ≡ map (λ v. v.party) b.users
  -- the answer is made of the tally of the own sales
  pub answer : r.answer ≡ answer_of_cuts asked (tally_all b.header.prices (cuts_by sale b u asked) (sales_by sale b u) nothing)
  -- the own sales of the user, and of another, afterwards
  pub own : kept (sale u.party.id) r.book.trades ≡ cut_all (cuts_by sale b u asked) (sales_by sale b u)
  pub other : (id : ℕ) → (id ≡ u.party.id → ⊥) → kept (sale id) r.book.trades ≡ kept (sale id) b.trades
  -- who is party to a trade standing below notified: who was, and who is party to an own sale that lost something
  pub cut : (id : ℕ) → cut_before id r.book.trades ≡ cut_before id b.trades || some_cut (is_party id) (cuts_by sale b u asked) (sales_by sale b u)

-- of the book as its risk is borne, by the seller
abbrev pub SalesReduced : Book → User → ℕ → Result Book → Type 0
SalesReduced b u asked r = ReducedOf own_sale (borne_book b) (borne_user b.users u) asked (borne_result r)
