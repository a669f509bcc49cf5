-- The draws of a number: a linear congruential sequence of 64 bits, with the multiplier and the increment of Donald Knuth's MMIX.
use Rattle.std.specs.Prelude.{ℕ, zero, suc, ◌+◌, ◌*◌, ◌/◌, ◌%◌, ◌^◌}

-- the state that follows another
abbrev pub next_state : ℕ → ℕ
next_state state = (6_364_136_223_846_793_005 * state + 1_442_695_040_888_963_407) % 2 ^ 64

-- the state after so many draws; it starts as the number
unfoldable pub state_after : ℕ → ℕ → ℕ
state_after number zero = number
state_after number (suc draws) = next_state (state_after number draws)

-- what a state draws below a bound: its upper 31 bits, modulo the bound
abbrev pub drawn : ℕ → ℕ → ℕ
drawn state bound = state / 2 ^ 33 % bound

-- the draws of a number, counted from 1: one below a bound
abbrev pub draw : ℕ → ℕ → ℕ → ℕ
draw number place bound = drawn (state_after number place) bound
