use Rattle.std.proofs.Common.{◌≡◌, get_or, map, subst, rules}
use Rattle.std.specs.Option.{option_copied}
use Rattle.std.specs.List.Sorted.{IsPermutation}
use Rattle.std.proofs.lemmas.List.Sorted.{All-permutation, IsPermutation-map, answers_always}
use Rattle.offer_book.specs.declared.line.Line.{Line}
use Rattle.backward_build.specs.Order.{saving_of}
use Rattle.backward_build.specs.declared.order.Candidate.{Candidate}
use Rattle.backward_build.proofs.OrderFacts.{line_of}
use Rattle.backward_build.proofs.SavingFacts.{falls}
use Rattle.backward_build.proofs.order.order.Goals as goal

pub returns-in-Ok : goal.returns-in-Ok
returns-in-Ok c = record {
  every_line = subst (λ lines. IsPermutation lines (map line_of c.sort_by_key.new.self.items)) c.in_ok-candidates.ensures.lines
      (IsPermutation-map line_of c.in_ok-candidates.candidates.items c.sort_by_key.new.self.items c.sort_by_key.ensures.permutation);
  savings = All-permutation (λ (candidate : Candidate). (d : Line) → candidate.saving ≡ saving_of c.args.book.now (option_copied c.args.prices) (get_or c.args.book.now.lines candidate.line d))
      c.in_ok-candidates.candidates.items c.sort_by_key.new.self.items c.sort_by_key.ensures.permutation c.in_ok-candidates.ensures.savings;
  falling = falls c.sort_by_key.new.self.items (c.in-Ok.ensures.sorted (λ candidate. record { 0 = candidate.saving }) (answers_always _ _ _ (λ f a r f' called. search rules)));
}
