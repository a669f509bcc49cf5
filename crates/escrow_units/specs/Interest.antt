-- Interest and prices of a face, to the cent. A rate counts 100,000 to the face and a year.
use Rattle.std.specs.Prelude.{ℕ, ◌*◌, ◌^◌}
use Rattle.escrow_units.specs.Rounding.{near}

-- what a face earns in so many parts of a year that has `year` of them
abbrev pub earned_of : ℕ → ℕ → ℕ → ℕ → ℕ
earned_of face rate parts year = near (face * rate * parts) (100_000 * year)

-- half a coupon: the interest of a half-year, half that of a year
abbrev pub half_coupon_of : ℕ → ℕ → ℕ
half_coupon_of face rate = near (face * rate) 200_000

-- what a face costs at a price in units of 10^-8 percent of it
abbrev pub face_price_of : ℕ → ℕ → ℕ
face_price_of face price = near (face * price) (10 ^ 10)
