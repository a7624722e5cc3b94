-- Document 02, ask 7: "A converter writes any version as any version." Assumes nothing.
use Rattle.std.specs.Prelude.{◌&&◌, ◌||◌, ◌∷◌, ◌++◌}
use Rattle.base.specs.Basics.{Bool, List, [], ℕ, eqb, leb, length}
use Rattle.rules.specs.Areas.{Prices, managers_in, selling_in}
use Rattle.rules.specs.Book.{Book, User, manager_in}
use Rattle.base.specs.Lists.{all}
use Rattle.rules.specs.Questions.{Question, version_known}
use Rattle.book_format.specs.Book.{book_of, bytes_of}
use Rattle.book_format.specs.Questions.{about_bytes}
use Rattle.outputs.specs.Output.{Output, written, written_after}

-- the book as a version, all else as it was. "Upward, new fields are 0": a field that a version lacks is 0 in the rules
unfoldable pub as_version : ℕ → Book → Book
as_version version b =
    record {
      header = record { version = version; date = b.header.date; prices = b.header.prices };
      users = b.users;
      trades = b.trades;
    }

-- "a selling tariff other than 0 on the way to 1" is lost information: a version has selling tariffs, or they are 0
unfoldable pub keeps_tariffs : ℕ → Prices → Bool
keeps_tariffs version f = selling_in version || (eqb f.s 0 && eqb f.u 0)

-- a user is managed nowhere
unfoldable pub unmanaged_user : User → Bool
unmanaged_user u =
    eqb (manager_in u.party.managers 0) 0 && (eqb (manager_in u.party.managers 1) 0 && eqb (manager_in u.party.managers 2) 0)

-- "Downward from 3, a manager other than 0 is lost information": a version has managers, or there is none
unfoldable pub keeps_managers : ℕ → List User → Bool
keeps_managers version us = managers_in version || all unmanaged_user us

-- no information is lost on the way to a version
unfoldable pub kept : ℕ → Book → Bool
kept version b = keeps_tariffs version b.header.prices && keeps_managers version b.users

-- ---- in bytes

-- the book that bytes hold, written as a version
unfoldable pub converted : ℕ → List ℕ → List ℕ
converted version s = bytes_of (as_version version (book_of s))

-- "an unknown target version with 23"
abbrev pub target_known : ℕ → Question
target_known version = record { number = 23; holds = version_known version }

-- "Lost information is refused with 21"
abbrev pub nothing_lost : ℕ → List ℕ → Question
nothing_lost version s = record { number = 21; holds = kept version (book_of s) }

-- "an output too short with 22"
abbrev pub room_for : List ℕ → List ℕ → Question
room_for bytes out = record { number = 22; holds = leb (length bytes) (length out) }

-- "asked after question 7 in the order 23, 21, 22"
unfoldable pub about_conversion : ℕ → List ℕ → List ℕ → List Question
about_conversion version s out = target_known version ∷ (nothing_lost version s ∷ (room_for (converted version s) out ∷ []))

-- a book written as a version, to an output
unfoldable pub conversion : ℕ → List ℕ → List ℕ → Output
conversion version s out = written (about_bytes s ++ about_conversion version s out) (converted version s) out

-- the same after its opening questions, by their number
unfoldable pub conversion_after : ℕ → ℕ → List ℕ → List ℕ → Output
conversion_after number version s out = written_after number (about_conversion version s out) (converted version s) out
