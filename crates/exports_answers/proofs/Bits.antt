-- What a cast makes of yes and no. Assumes nothing.
use Rattle.base.specs.Basics.{◌≡◌, refl, Bool, true, false}
use mir.Val.{bool_byte}
use Rattle.exports_answers.specs.Numbers.{bit}

pub cast_bit : (b : Bool) → bool_byte b ≡ bit b
unfolding bit
cast_bit true = refl
cast_bit false = refl
