-- The words of the kit that proofs and definitions here use: equality, tests, options, lists, numbers, and what is known of them. A file brings
-- what it needs of them by one line. Assumes nothing.
pub use Rattle.std.proofs.Common.{◌∙◌, ap, ap₂, subst, sym, inl, inr, ⊎_elim, suc-le-suc, add-one, add_assoc, add-mul, add-zero, div-add-mod', div-mul-le_self, eq-zero-or-pos, le_of_eq, le_of_mul-le-mul_right, le_of_suc-le-suc, le_refl, le_trans, lt_of_mul-lt-mul_right, mod-eq_of_lt, mod-lt, mul-add, mul_comm, mul-le-mul, mul-le-mul_left, mul-le-mul_right, mul-lt-mul_of_pos_right, mul-pos, mul_right_comm, mul-suc, mul-zero, not-suc-le-zero, one-mul, zero-add, zero-mul, arith, T_not, eqb→eq, leb→le, le→leb, lit<, ltb→lt, lt→ltb, nltb→le, drop_of_length-le, length-append, length-drop, length-set, length-take, take-append-drop, drop_at, drop-cons, drop-drop, drop-set-lt, ext_get_or, get_or-drop, get_or-set_other, get_or-set_same, get_or-take, length-take-le, take-add, take_all, take_at, take-suc, take-suc-set, take-take, rules, eq-eqb, eqb-true, le-leb, le-ltb, leb-false, leb-true, lt-ltb, ltb-false, ltb-true, ne_eqb}
pub use Rattle.std.specs.Prelude.{◌≡◌, refl, ◌⊎◌, Bool, ◌&&◌, ◌||◌, cond, false, not, true, ◌%◌, ◌*◌, ◌+◌, ◌-◌, ◌/◌, ◌<◌, ◌^◌, ◌≤◌, max, min, suc, zero, ℕ, T, eqb, leb, ltb, ◌*ℤ◌, ◌+ℤ◌, ◌-ℤ◌, nat_abs, negsuc, neg_ℤ, pos, ℤ, drop, get_or, length, replicate, set, take}
pub use Rattle.std.proofs.Math.Path.{fun_ext, subst⁻¹}
pub use Rattle.std.proofs.lemmas.Bool.{false≢true, eqb-false, lt-leb, not-false, not-true}
pub use Rattle.std.proofs.Math.Option.{Option, none-ne-some, some-injective, some-ne-none, none, some}
pub use mathlib.Core.List.Memᴰ.{cases_cons as Memᴰ-cases_cons}
pub use mathlib.Core.List.Memᴰ.{not-nil as Memᴰ-not-nil}
pub use mathlib.Core.List.Permᴰ.{cons as Permᴰ-cons}
pub use mathlib.Core.List.Permᴰ.{nil as Permᴰ-nil}
pub use mathlib.Core.List.Permᴰ.{swap as Permᴰ-swap}
pub use mathlib.Core.List.{List, Memᴰ, Permᴰ}
pub use mathlib.Core.List.Permᴰ.{symm as Permᴰ-symm}
pub use mathlib.Core.List.Permᴰ.{trans as Permᴰ-trans}
pub use mathlib.Core.List.{[], ◌++◌, ◌∷◌, append_assoc, append-nil, cons≢nil, head-eq_of_cons-eq, map, map-append}
pub use mathlib.Core.List.{map-id, map-map, nil≢cons, tail-eq_of_cons-eq}
pub use Rattle.std.proofs.Math.Nat.{div-eq_of_lt, div-le_of_le-mul, max-eq_left, max-eq_right, one-le-pow, sub_self, sub-zero, two-pow-succ, zero-div, zero-mod}
pub use Rattle.std.proofs.Math.Dec.{eqb_refl, eqb-suc-suc, eqb-suc-zero, eqb-zero-suc, leb-suc-suc, nleb→lt, not_T}
pub use Rattle.std.proofs.Math.IntN.{+ℤ_assoc, +ℤ_comm, +ℤ_idl, +ℤ_idr, sub_ℕ}
pub use Rattle.std.proofs.Math.ListN.{get_or-append, get_or-eq_default, get_or-map}
pub use Rattle.std.proofs.lemmas.List.{get_or-replicate, length-map, length-replicate, replicate-append-replicate, drop-append-le, drop-set-add, get_or_at, set-append_left, set_at, set-get_or, take-append-le, take-set-le}
pub use Rattle.std.proofs.Math.Seq.{append_snoc, drop-append-add, drop-length, length-sets, map-set_same, set_out, take-length, take-set-lt}
pub use Rattle.std.proofs.lemmas.List.Edits.{sets, sets-eq}
pub use denote.Ref.{MutRef, Bor, MutBor, mut_Tells, shr_vals, mut_vals}
