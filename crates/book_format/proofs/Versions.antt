-- A book of version 1 in bytes is document 01's. Assumes nothing.
use Rattle.base.specs.Basics.{◌≡◌, refl, false, append-nil, ℕ}
use Rattle.rules.specs.Areas.{managers_in, selling_in}
use Rattle.book_records.specs.User.{record_bytes, record_size, user_bytes}
use Rattle.book_format.specs.Book.{header_bytes, size_of_header, length_by, prices_of, selling_tariff_at, user_record, size_of_user}
use Rattle.book_format.specs.Versions.{KeepsBytes}
use Rattle.book_format.proofs.Offsets.{selling_none}

-- it has no selling tariffs
none_in_1 : (version : ℕ) → version ≡ 1 → selling_in version ≡ false
unfolding selling_in
none_in_1 version e = rw e refl

pub keeps_bytes : KeepsBytes
unfolding length_by size_of_header size_of_user record_size selling_in managers_in header_bytes prices_of selling_tariff_at user_record record_bytes
keeps_bytes =
    record {
      size = λ n m. refl;
      header = λ b e. rw (selling_none b.header.version b.header.prices (none_in_1 b.header.version e)) (append-nil _);
      prices = λ s e. rw e (refl, refl);
      size_2 = λ n m. refl;
      size_3 = λ n m. refl;
      records = λ version u e. rw e (append-nil (user_bytes u));
    }
