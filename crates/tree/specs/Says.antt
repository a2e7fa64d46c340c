-- What a yes or no says.
use Rattle.std.specs.Prelude.{◌≡◌, Bool, true, false}

-- b says whether P holds
pub record Says (P : Type 0) (b : Bool) : Type 0 where
  pub if_so : b ≡ true → P
  pub if_not : b ≡ false → P → ⊥
