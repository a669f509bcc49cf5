-- Prices that are put one after another, each at most the one before it.
use Rattle.std.proofs.Common.{ℕ, ◌+◌, ◌<◌, ◌≤◌, List, [], ◌∷◌, ◌++◌, take, set, length, sym, arith, All, AllPairs, subst}
use Rattle.std.proofs.lemmas.List.{take_more_set}
use Rattle.std.proofs.lemmas.List.Elements.{All-push}
use Rattle.std.proofs.lemmas.List.Quantifiers.{all_pairs_push}

-- the first prices so far
pub record AreFalling (greatest : ℕ) (price : ℕ) (prices : List ℕ) : Type 0 where
  pub bound : price ≤ greatest
  pub range : All (λ earlier. earlier ≤ greatest) prices
  pub falling : AllPairs (λ earlier later. later ≤ earlier) prices
  pub last : All (λ earlier. price ≤ earlier) prices

pub falling_push : (greatest price next : ℕ) (prices : List ℕ) → AreFalling greatest price prices → next ≤ price → AreFalling greatest next (prices ++ next ∷ [])
falling_push greatest price next prices before below = record {
  bound = omega (arith, before.bound, below);
  range = All-push (λ earlier. earlier ≤ greatest) prices next before.range (omega (arith, before.bound, below));
  falling = all_pairs_push (λ earlier later. later ≤ earlier) prices next before.falling (λ k d within. omega (arith, before.last k d within, below));
  last = All-push (λ earlier. next ≤ earlier) prices next (λ k d within. omega (arith, before.last k d within, below)) (omega arith);
}

-- with a price put in the next place
pub falling_set : (greatest price next : ℕ) (prices : List ℕ) (place : ℕ) → AreFalling greatest price (take place prices) → next ≤ price → place < length prices
    → AreFalling greatest next (take (place + 1) (set prices place next))
falling_set greatest price next prices place before below within =
    subst (AreFalling greatest next) (sym (take_more_set prices place next within)) (falling_push greatest price next (take place prices) before below)
