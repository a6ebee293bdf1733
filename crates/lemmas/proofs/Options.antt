-- What follows from equal options. That none isn't some is std's `none-some`.
use Rattle.std.proofs.Common.{◌≡◌, Some}

pub same_some : {A : Type 0} (x y : A) → Some x ≡ Some y → x ≡ y
same_some x y is = cc
