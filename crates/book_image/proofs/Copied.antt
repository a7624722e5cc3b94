-- The parts of a book filled one after the other make its image. Assumes nothing.
use Rattle.base.specs.Basics.{◌≡◌, sym, ap, ◌∙◌, List, ◌++◌, ℕ, ◌+◌, ◌-◌, ◌*◌, ◌≤◌, arith, length, take, drop, replicate, length-take, length-drop}
use Rattle.base.specs.Basics.{length-replicate, sets, length-sets, take_all}
use borrow.Rule.Slice.PartMut.{put_mid}
use Rattle.fields.proofs.Sets.{length_part, part_sets, sets-append, sets_three}
use Rattle.book_format.specs.Book.{version_of, count_of_users, size_of_header, trades_at, size_of_user}
use Rattle.book_format.specs.Questions.{Formed}
use Rattle.book_format.proofs.Offsets.{header_range, users_end}
use Rattle.book_image.specs.Fitted.{refitted}
use Rattle.book_image.specs.Image.{image_users_at, image_user_size, image_trades_at, image_size, padded, image_header, image_users, image_trades, image_of}
use Rattle.book_image.proofs.Filled.{length-padded}
use Rattle.book_image.proofs.Fitted.{length-refitted}

-- ---- the parts of a book fill their rooms in an image

pub length-header : (s : List ℕ) → length (image_header s) ≡ image_users_at
length-header s =
    length-padded image_users_at (take (size_of_header (version_of s)) s) (rw length-take (omega (arith, header_range (version_of s))))

module _ (s : List ℕ) (f : Formed s) where
  pub length-users : length (image_users s) ≡ image_trades_at - image_users_at
  length-users =
      let n = count_of_users s in
      let rs = refitted image_user_size (size_of_user (version_of s)) n (drop (size_of_header (version_of s)) s) in
      length-padded (image_trades_at - image_users_at) rs (omega (arith, f.users, length-refitted image_user_size (size_of_user (version_of s)) n (drop (size_of_header (version_of s)) s)))

  pub length-trades : length (image_trades s) ≡ image_size - image_trades_at
  length-trades =
      length-padded (image_size - image_trades_at) (drop (trades_at s) s) (rw length-drop (omega (arith, f.trades, f.whole)))

-- ---- filled one after the other

-- the room of the users: their records, and 0 behind them
pub users_filled : {part written : List ℕ} (l rs : List ℕ) (n : ℕ) → length l ≡ image_size → n ≤ 64 → length rs ≡ image_user_size * n → written ≡ sets l image_users_at rs
    → part ≡ replicate (length (take (image_trades_at - (image_users_at + image_user_size * n)) (drop (image_users_at + image_user_size * n) written))) 0
    → put_mid (image_users_at + image_user_size * n) (image_trades_at - (image_users_at + image_user_size * n)) written part ≡ sets l image_users_at (padded (image_trades_at - image_users_at) rs)
unfolding padded
users_filled {part} {written} l rs n whole few sized w e =
    let a = image_users_at + image_user_size * n in
    let k = image_trades_at - a in
    let m = sets l image_users_at rs in
    let lm : length m ≡ image_size = length-sets l image_users_at rs ∙ whole in
    let z : part ≡ replicate k 0 = e ∙ ap (λ (t : List ℕ). replicate (length (take k (drop a t))) 0) w ∙ ap (λ (i : ℕ). replicate i 0) (length_part m a k (omega (arith, lm))) in
    let r : image_trades_at - image_users_at - length rs ≡ k = omega (arith, sized) in
    let b : image_users_at + length rs ≡ a = omega (arith, sized) in
    rw (w, z) (part_sets m (replicate k 0) a k (length-replicate k 0) (omega (arith, lm)))
    ∙ sym (ap (λ (i : ℕ). sets l image_users_at (rs ++ replicate i 0)) r ∙ sets-append rs (replicate k 0) l image_users_at ∙ ap (λ (i : ℕ). sets m i (replicate k 0)) b)

-- header, users and trades, over the whole of an image
copied : (s l : List ℕ) → Formed s → length l ≡ image_size → sets (sets (sets l 0 (image_header s)) image_users_at (image_users s)) image_trades_at (image_trades s) ≡ image_of s
unfolding image_of
copied s l f e =
    sets_three (image_header s) (image_users s) (image_trades s) l image_users_at image_trades_at (length-header s) (omega (arith, length-users s f)) (omega (arith, e, length-trades s f))

-- the same of the parts of a book of n users, as they are lent
pub all_filled : (s l : List ℕ) {from size n : ℕ} → Formed s → from ≡ size_of_header (version_of s) → size ≡ size_of_user (version_of s) → n ≡ count_of_users s → length l ≡ image_size
    → sets (sets (sets l 0 (padded image_users_at (take from s))) image_users_at (padded (image_trades_at - image_users_at) (refitted image_user_size size n (drop from s)))) image_trades_at
    (padded (image_size - image_trades_at) (take (length s - (from + size * n)) (drop (from + size * n) s))) ≡ image_of s
all_filled s l {from} {size} {n} f begin sized users whole =
    let at = from + size * n in
    let rest : take (length s - at) (drop at s) ≡ drop (trades_at s) s = take_all (length s - at) (drop at s) (rw length-drop (omega arith)) ∙ ap (λ (i : ℕ). drop i s) (users_end s begin sized users) in
    rw (rest, begin, sized, users) (copied s l f whole)
