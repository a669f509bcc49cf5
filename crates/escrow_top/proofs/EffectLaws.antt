-- Effects that are done one after another, proved.
use Rattle.std.proofs.Common.{◌≡◌, ◌∙◌, List, [], ◌∷◌, Some, None, refl, sym, ap, subst, inl, inr}
use Rattle.escrow_desk.specs.Content.{Told, told_map}
use Rattle.escrow_top.specs.Effects.{Effect, FailedIn, IsPartOf, with_effect, with_effects}

next-told : (effect : Effect) (effects : List Effect) (told : Told) → told_map (with_effects (effect ∷ effects)) told ≡ told_map (with_effects effects) (told_map (with_effect effect) told)
next-told effect effects None = refl
next-told effect effects (Some content) = refl

none-left : (told : Told) → told_map (with_effects []) told ≡ told
none-left None = refl
none-left (Some content) = refl

-- some of all effects were done: those that are left end as all do, and fail as all do
pub record AreCarried (old : Told) (all : List Effect) (now : Told) (left : List Effect) : Type 0 where
  pub whole : told_map (with_effects left) now ≡ told_map (with_effects all) old
  pub part : (new : Told) → FailedIn now left new → FailedIn old all new

pub carried-none : (old : Told) (all : List Effect) → AreCarried old all old all
carried-none old all = record { whole = refl; part = λ new failed. failed }

pub carried-one : (old : Told) (all : List Effect) (now next : Told) (effect : Effect) (left : List Effect) → AreCarried old all now (effect ∷ left) → next ≡ told_map (with_effect effect) now → AreCarried old all next left
carried-one old all now next effect left so_far is = record {
  whole = ap (told_map (with_effects left)) is ∙ (sym (next-told effect left now) ∙ so_far.whole);
  part = λ new failed. so_far.part new (inr (subst (λ (t : Told). FailedIn t left new) is failed));
}

pub carried-failed : (old : Told) (all : List Effect) (now new : Told) (effect : Effect) (left : List Effect) → AreCarried old all now (effect ∷ left) → IsPartOf now effect new → FailedIn old all new
carried-failed old all now new effect left so_far part = so_far.part new (inl part)

pub carried-all : (old : Told) (all : List Effect) (now : Told) → AreCarried old all now [] → now ≡ told_map (with_effects all) old
carried-all old all now so_far = sym (none-left now) ∙ so_far.whole
