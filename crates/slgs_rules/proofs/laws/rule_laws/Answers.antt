use Rattle.slgs_rules.proofs.ClassificationFacts.{classified-answer}
use Rattle.slgs_rules.proofs.RuleFacts.{answer-unique, subscription-terms}
use Rattle.slgs_rules.proofs.laws.rule_laws.Goals as goal

pub returns-clause-unique : goal.returns-clause-unique
returns-clause-unique c = answer-unique

pub returns-clause-terms : goal.returns-clause-terms
returns-clause-terms c = subscription-terms

pub returns-clause-classified : goal.returns-clause-classified
returns-clause-classified c = classified-answer
