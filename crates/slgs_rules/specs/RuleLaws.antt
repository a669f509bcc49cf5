-- What the rules of subscriptions mean.
use Rattle.std.specs.Prelude.{◌≡◌, Result}
use Rattle.escrow_units.specs.SlgsTerms.{IsSettlement, IsSlgs}
use Rattle.escrow_units.specs.declared.security.Slgs.{Slgs}
use Rattle.slgs_rules.specs.Classification.{classified}
use Rattle.slgs_rules.specs.TermRules.{Request, IsAnswer, IsSubscription}
use Rattle.slgs_rules.specs.declared.fault.RuleFault.{RuleFault}

-- a request has one answer
abbrev pub AnswersAreUnique : Type 0
AnswersAreUnique =
    (request : Request) (a b : Result Slgs RuleFault) → IsSettlement request.settle → IsAnswer request a → IsAnswer request b → a ≡ b

-- a security that is sold keeps the terms of SLGS securities
abbrev pub SubscriptionsKeepTerms : Type 0
SubscriptionsKeepTerms =
    (request : Request) (slgs : Slgs) → IsSettlement request.settle → IsSubscription request slgs → IsSlgs slgs

-- the definition by tests gives the answer of the rules
abbrev pub ClassifiedIsAnswer : Type 0
ClassifiedIsAnswer = (request : Request) → IsSettlement request.settle → IsAnswer request (classified request)
