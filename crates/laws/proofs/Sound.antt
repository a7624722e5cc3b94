-- A book passes the questions 2 to 7 exactly when it is sound. Assumes nothing.
use Rattle.base.specs.Basics.{◌≡◌, ◌&&◌, T, eqb→eq}
use Rattle.laws.proofs.Refusals.{first_yes, yes_first}
use Rattle.laws.specs.Sound.{Sound}
use Rattle.base.proofs.Tests.{and_l, and_r, and_i}
use Rattle.rules.specs.Book.{Book}
use Rattle.base.specs.Lists.{all}
use Rattle.rules.specs.Questions.{refusal, about_book, accepted, ids_rise, user_is_valid, users_are_valid, groups_valid}

pub sound_of : (b : Book) → refusal (about_book b) ≡ 0 → Sound b
unfolding about_book users_are_valid
sound_of b h =
    let q2 = first_yes _ _ h tt in
    let q3 = first_yes _ _ q2.1 tt in
    let q4 = first_yes _ _ q3.1 tt in
    let q5 = first_yes _ _ q4.1 tt in
    let q6 = first_yes _ _ q5.1 tt in
    let q7 = first_yes _ _ q6.1 tt in
    let u = ids_rise 0 b.users in
    let v = all user_is_valid b.users in
    let each = and_l (u && v) (groups_valid b) q5.0 in
    record {
      version = q2.0;
      counts = q3.0;
      header = q4.0;
      ids = and_l u v each;
      users = and_r u v each;
      groups = and_r (u && v) (groups_valid b) q5.0;
      trades = q6.0;
      positions = q7.0;
    }

pub sound : (b : Book) → T (accepted b) → Sound b
unfolding accepted
sound b t = sound_of b (eqb→eq (refusal (about_book b)) 0 t)

pub none_refuses : (b : Book) → Sound b → refusal (about_book b) ≡ 0
unfolding about_book users_are_valid refusal
none_refuses b s =
    let u = ids_rise 0 b.users in
    let v = all user_is_valid b.users in
    rw (yes_first 2 _ _ s.version, yes_first 3 _ _ s.counts, yes_first 4 _ _ s.header, yes_first 5 _ _ (and_i (u && v) (groups_valid b) (and_i u v s.ids s.users) s.groups), yes_first 6 _ _ s.trades, yes_first 7 _ _ s.positions)

pub accept : (b : Book) → Sound b → T (accepted b)
unfolding accepted
accept b s = rw (none_refuses b s) tt
