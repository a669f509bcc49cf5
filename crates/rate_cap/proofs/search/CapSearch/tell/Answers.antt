use Rattle.rate_cap.proofs.SearchFacts.{found-gives, found-told, not_found-gives, not_found-told}
use Rattle.rate_cap.proofs.search.CapSearch.tell.Goals as goal

pub invariant_of-self : goal.invariant_of-self
invariant_of-self c =
    found-told c.args.self.now _ c.push.new.self.items c.in-Some.cap c.self.view_is c.self.invariant c.requires c.in-Some.ensures.next c.push.ensures.items

pub invariant_of-self-else-found : goal.invariant_of-self-else-found
invariant_of-self-else-found c =
    not_found-told c.args.self.now _ c.push-else-found.new.self.items c.in-Some.cap c.self.view_is c.self.invariant c.requires c.in-Some.ensures.next c.push-else-found.ensures.items

pub returns-then-found : goal.returns-then-found
returns-then-found c =
    found-gives c.args.self.now _ c.push.new.self.items c.in-Some.cap c.args.found c.self.view_is c.self.invariant c.requires c.in-Some.ensures.next c.push.ensures.items c.if-found.true

pub returns-else-found : goal.returns-else-found
returns-else-found c =
    not_found-gives c.args.self.now _ c.push-else-found.new.self.items c.in-Some.cap c.args.found c.self.view_is c.self.invariant c.requires c.in-Some.ensures.next c.push-else-found.ensures.items c.if-found.false
