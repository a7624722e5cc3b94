-- Laws of a user's bytes, 56 and with its managers 68: how many, bytes, read and written, written and read. Assumes nothing.
use Rattle.base.specs.Basics.{◌≡◌, refl, sym, ap, ap₂, ◌∙◌, Bool, true, false, cond, List, [], ◌++◌, append-nil, ℕ, ◌≤◌, arith, length, get_or}
use Rattle.base.specs.Basics.{take, drop, length-append, take-append-drop, drop_of_length-le, length-drop, length-take, take_all}
use Rattle.rules.specs.Signed.{signed_of}
use Rattle.rules.specs.Book.{User, Managers, unmanaged}
use Rattle.fields.specs.Field.{from_bytes, to_bytes, field, AllBytes}
use Rattle.fields.specs.Layout.{fields_at, pack, size, FitAll}
use Rattle.fields.proofs.Field.{all_bytes_append, field_lt, field_part}
use Rattle.fields.proofs.Pack.{length-pack, all_bytes_pack, pack_fields_at, fields_at_pack}
use Rattle.units.proofs.TwosComplement.{bits_of_signed_of}
use Rattle.book_records.specs.User.{amounts_at, amount_widths, amount_values, managers_at, manager_widths, manager_values, manager_bytes, user_of, user_zeros, user_widths, user_values, user_bytes, record_size, record_bytes, alone, FitsUser, FitsManagers}
use Rattle.book_records.proofs.Amounts.{amount_values-amounts_at, signed_bits, bits_lt}

-- ---- the bytes

pub length-user_bytes : (u : User) → length (user_bytes u) ≡ 56
unfolding user_bytes user_widths amount_widths user_values amount_values size
length-user_bytes u = length-pack user_widths (user_values u) refl

pub length-manager_bytes : (ms : Managers) → length (manager_bytes ms) ≡ 12
unfolding manager_bytes manager_widths manager_values size
length-manager_bytes ms = length-pack manager_widths (manager_values ms) refl

pub length-record_bytes : (managed : Bool) (u : User) → length (record_bytes managed u) ≡ record_size managed
unfolding record_bytes record_size
length-record_bytes true u = length-append (user_bytes u) (manager_bytes u.party.managers) ∙ omega (arith, length-user_bytes u, length-manager_bytes u.party.managers)
length-record_bytes false u = ap length (append-nil (user_bytes u)) ∙ length-user_bytes u

pub all_bytes_user_bytes : (u : User) → AllBytes (user_bytes u)
unfolding user_bytes
all_bytes_user_bytes u = all_bytes_pack user_widths (user_values u)

pub all_bytes_record_bytes : (managed : Bool) (u : User) → AllBytes (record_bytes managed u)
unfolding record_bytes manager_bytes
all_bytes_record_bytes true u = all_bytes_append (user_bytes u) (manager_bytes u.party.managers) (all_bytes_user_bytes u) (all_bytes_pack manager_widths (manager_values u.party.managers))
all_bytes_record_bytes false u = all_bytes_append (user_bytes u) [] (all_bytes_user_bytes u) (λ i. omega arith)

-- the zero bytes are written
pub user_zeros-record_bytes : (managed : Bool) (u : User) → user_zeros (record_bytes managed u) ≡ 0
unfolding user_zeros record_bytes user_bytes user_widths user_values pack field to_bytes from_bytes
user_zeros-record_bytes managed u = refl

-- ---- read and written

-- the values of a user that is read are those that stand there
user_values-user_of : (c : List ℕ) → AllBytes c → user_zeros c ≡ 0 → user_values (user_of c) ≡ fields_at user_widths 0 c
unfolding user_values user_of user_zeros user_widths amount_widths fields_at
user_values-user_of c b z =
    rw
    (amount_values-amounts_at 8 c b, amount_values-amounts_at 20 c b, bits_of_signed_of 64 (field 8 32 c) (field_lt 8 32 c b), z)

-- of a record of any version: its first 56 bytes
pub user_bytes_of : (c : List ℕ) → 56 ≤ length c → AllBytes c → user_zeros c ≡ 0 → user_bytes (user_of c) ≡ take 56 c
unfolding user_bytes user_widths amount_widths size
user_bytes_of c l b z = ap (pack user_widths) (user_values-user_of c b z) ∙ pack_fields_at user_widths 0 c l b

-- and those behind them
pub manager_bytes_of : (c : List ℕ) → length c ≡ 68 → AllBytes c → manager_bytes (managers_at 56 c) ≡ drop 56 c
unfolding manager_bytes manager_widths manager_values managers_at fields_at size
manager_bytes_of c l b =
    pack_fields_at manager_widths 56 c (omega arith) b ∙ take_all 12 (drop 56 c) (rw length-drop (omega arith))

pub record_bytes_of : (managed : Bool) (c : List ℕ) → length c ≡ record_size managed → AllBytes c → user_zeros c ≡ 0 → record_bytes managed (user_of c) ≡ c
unfolding record_bytes record_size user_of
record_bytes_of true c l b z =
    ap₂ (λ (x y : List ℕ). x ++ y) (user_bytes_of c (omega (arith, l)) b z) (manager_bytes_of c l b) ∙ take-append-drop 56 c
record_bytes_of false c l b z =
    append-nil (user_bytes (user_of c)) ∙ user_bytes_of c (omega (arith, l)) b z ∙ take_all 56 c (omega (arith, l))

-- ---- written and read

-- the user of the values of its fields, and of its managers
user_from : List ℕ → Managers → User
user_from vs ms =
    record {
      party = record { id = get_or vs 0 0; role = get_or vs 1 0; charges = signed_of 64 (get_or vs 9 0); assigned = get_or vs 10 0; managers = ms };
      physical = record { pvb = signed_of 32 (get_or vs 3 0); tvb = signed_of 32 (get_or vs 4 0); avb = signed_of 32 (get_or vs 5 0) };
      position = record { pvb = signed_of 32 (get_or vs 6 0); tvb = signed_of 32 (get_or vs 7 0); avb = signed_of 32 (get_or vs 8 0) };
      blocked = get_or vs 11 0;
    }

user_of_fields : (c : List ℕ) → user_of c ≡ user_from (fields_at user_widths 0 c) (managers_at 56 c)
unfolding user_of amounts_at user_from user_widths amount_widths fields_at
user_of_fields c = refl

user_from_values : (u : User) (ms : Managers) → FitsUser u → u.party.managers ≡ ms → user_from (user_values u) ms ≡ u
unfolding user_from user_values amount_values
user_from_values u ms f e =
    let h = u.physical in
    let p = u.position in
    rw (
      ← e,
      signed_bits 32 h.pvb f.physical.pvb,
      signed_bits 32 h.tvb f.physical.tvb,
      signed_bits 32 h.avb f.physical.avb,
      signed_bits 32 p.pvb f.position.pvb,
      signed_bits 32 p.tvb f.position.tvb,
      signed_bits 32 p.avb f.position.avb,
      signed_bits 64 u.party.charges f.charges,
    )

fit_user_values : (u : User) → FitsUser u → FitAll user_widths (user_values u)
unfolding user_widths amount_widths user_values amount_values
fit_user_values u f =
    let h = u.physical in
    let p = u.position in (
      f.id,
      (
        f.role,
        (
          omega arith,
          (
            bits_lt 32 h.pvb f.physical.pvb,
            (
              bits_lt 32 h.tvb f.physical.tvb,
              (
                bits_lt 32 h.avb f.physical.avb,
                (
                  bits_lt 32 p.pvb f.position.pvb,
                  (
                    bits_lt 32 p.tvb f.position.tvb,
                    (bits_lt 32 p.avb f.position.avb, (bits_lt 64 u.party.charges f.charges, (f.assigned, (f.blocked, tt)))),
                  ),
                ),
              ),
            ),
          ),
        ),
      ),
    )

-- of bytes that a user's 56 begin with
fields_written : (u : User) (q : List ℕ) → FitsUser u → fields_at user_widths 0 (user_bytes u ++ q) ≡ user_values u
unfolding user_bytes
fields_written u q f = fields_at_pack user_widths (user_values u) [] q 0 refl (fit_user_values u f)

-- past the end a field reads 0
pub managers_past : (c : List ℕ) → length c ≤ 56 → managers_at 56 c ≡ unmanaged
unfolding managers_at field from_bytes
managers_past c l =
    rw (drop_of_length-le c {i = 56} (omega arith), drop_of_length-le c {i = 60} (omega arith), drop_of_length-le c {i = 64} (omega arith))

managers_behind : (c : List ℕ) (ms : Managers) → length c ≡ 56 → FitsManagers true ms → managers_at 56 (c ++ manager_bytes ms) ≡ ms
unfolding managers_at manager_widths manager_values manager_bytes fields_at
managers_behind c ms l f = ap from fields
  where
    from : List ℕ → Managers
    from vs = record { pvb = get_or vs 0 0; tvb = get_or vs 1 0; avb = get_or vs 2 0 }

    fields : fields_at manager_widths 56 (c ++ manager_bytes ms) ≡ manager_values ms
    fields =
        ap (λ (q : List ℕ). fields_at manager_widths 56 (c ++ q)) (sym (append-nil (manager_bytes ms)))
        ∙ fields_at_pack manager_widths (manager_values ms) c [] 56 l (f.pvb, (f.tvb, (f.avb, tt)))

managers_none : (ms : Managers) → FitsManagers false ms → unmanaged ≡ ms
managers_none ms f =
    let p : 0 ≡ ms.pvb = omega (arith, f.pvb) in
    let t : 0 ≡ ms.tvb = omega (arith, f.tvb) in
    let a : 0 ≡ ms.avb = omega (arith, f.avb) in
    λ i. record { pvb = p i; tvb = t i; avb = a i }

managers_written : (managed : Bool) (u : User) → FitsManagers managed u.party.managers → managers_at 56 (record_bytes managed u) ≡ u.party.managers
unfolding record_bytes
managers_written true u f = managers_behind (user_bytes u) u.party.managers (length-user_bytes u) f
managers_written false u f =
    ap (managers_at 56) (append-nil (user_bytes u))
    ∙ managers_past (user_bytes u) (omega (arith, length-user_bytes u))
    ∙ managers_none u.party.managers f

pub user_of_record : (managed : Bool) (u : User) → FitsUser u → FitsManagers managed u.party.managers → user_of (record_bytes managed u) ≡ u
unfolding record_bytes
user_of_record managed u f m =
    user_of_fields (record_bytes managed u)
    ∙ ap₂ user_from (fields_written u (cond managed (manager_bytes u.party.managers) []) f) (managers_written managed u m)
    ∙ user_from_values u u.party.managers f refl

-- ---- the first 56 bytes of a record have no managers

pub user_of_front : (c : List ℕ) → user_of (take 56 c) ≡ alone (user_of c)
unfolding alone user_of amounts_at
user_of_front c =
    rw (
      managers_past (take 56 c) (rw length-take (omega arith)),
      field_part 4 0 0 56 c (omega arith),
      field_part 1 4 0 56 c (omega arith),
      field_part 4 8 0 56 c (omega arith),
      field_part 4 12 0 56 c (omega arith),
      field_part 4 16 0 56 c (omega arith),
      field_part 4 20 0 56 c (omega arith),
      field_part 4 24 0 56 c (omega arith),
      field_part 4 28 0 56 c (omega arith),
      field_part 8 32 0 56 c (omega arith),
      field_part 8 40 0 56 c (omega arith),
      field_part 8 48 0 56 c (omega arith),
    )
