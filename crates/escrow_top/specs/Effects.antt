-- What is done to the outside, and what stands after it.
use Rattle.std.specs.Prelude.{◌≡◌, ◌⊎◌, ℕ, List, [], ◌∷◌}
use Rattle.escrow_desk.specs.Content.{Content, Told, SaidPart, WrotePart, told_map, with_file, with_said}
use Rattle.certificate_answers.specs.Answer.{Answer}
use Rattle.certificate_answers.specs.declared.status.Status.{Status}
use Rattle.escrow_top.specs.declared.effects.Effect.{Effect as CodeEffect}
use Rattle.escrow_top.specs.declared.effects.Effect.TheVariants as code

-- the file of a name is written whole, with these bytes; or a text is said
pub data Effect : Type 0 where
  Write : List ℕ → List ℕ → Effect
  Say : List ℕ → Effect

-- the content after it
abbrev pub with_effect : Effect → Content → Content
with_effect (Write name bytes) content = with_file content name bytes
with_effect (Say text) content = with_said content text

-- the content after several, one after another: of equal names the later bytes stand
abbrev pub with_effects : List Effect → Content → Content
with_effects [] content = content
with_effects (effect ∷ effects) content = with_effects effects (with_effect effect content)

-- what stands where it failed: the file is as before, or holds a prefix of the bytes; or a prefix of the text was said
abbrev pub IsPartOf : Told → Effect → Told → Type 0
IsPartOf old (Write name bytes) new = WrotePart old name bytes new
IsPartOf old (Say text) new = SaidPart old text new

-- the same where one of several failed: those before it were done whole, and none after it
abbrev pub FailedIn : Told → List Effect → Told → Type 0
FailedIn old [] new = ⊥
FailedIn old (effect ∷ effects) new = IsPartOf old effect new ⊎ FailedIn (told_map (with_effect effect) old) effects new

-- what a run comes to: a status, and what is done before it is answered
pub record Outcome : Type 0 where
  pub status : Status
  pub effects : List Effect

-- an answer is said
abbrev pub saying : Answer → Outcome
saying answer = record { status = answer.status; effects = Say answer.text ∷ [] }

-- a certificate is written to the file of a name, and then a text is said
abbrev pub writing : Status → List ℕ → List ℕ → List ℕ → Outcome
writing reached name cert text = record { status = reached; effects = Write name cert ∷ Say text ∷ [] }

-- this is its status, and all was done
abbrev pub IsDone : Told → Outcome → Status → Told → Type 0
IsDone told outcome reached new = (reached ≡ outcome.status) × (new ≡ told_map (with_effects outcome.effects) told)

-- an outcome that is so was reached
pub record Reaches (Is : Outcome → Type 0) (told : Told) (reached : Status) (new : Told) : Type 0 where
  pub outcome : Outcome
  pub is : Is outcome
  pub done : IsDone told outcome reached new

-- one that is so was begun, and a write failed
pub record ReachesPart (Is : Outcome → Type 0) (told new : Told) : Type 0 where
  pub outcome : Outcome
  pub is : Is outcome
  pub failed : FailedIn told outcome.effects new

-- an effect as the code has it
abbrev pub effect_view : CodeEffect → Effect
effect_view (code.Write name bytes) = Write name.now bytes.now
effect_view (code.Say text) = Say text.now
