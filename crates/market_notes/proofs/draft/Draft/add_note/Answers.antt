use Rattle.std.proofs.Common.{sym, subst}
use Rattle.std.proofs.lemmas.List.Elements.{All-push}
use Rattle.market_notes.specs.NoteTerms.{IsOffered, NotesRead}
use Rattle.market_notes.proofs.draft.Draft.add_note.Goals as goal

pub invariant_of-self-2 : goal.invariant_of-self-2
invariant_of-self-2 c =
    let good : IsOffered c.self.inside.settle c.self.inside.terms c.args.note = subst (λ (read : NotesRead). IsOffered read.settle read.terms c.args.note) (sym c.self.view_is) c.requires in
    record {
      latest = c.self.invariant.latest;
      settle = c.self.invariant.settle;
      terms = c.self.invariant.terms;
      notes = rw c.in_ok-push.ensures.items (All-push (IsOffered c.self.inside.settle c.self.inside.terms) c.self.inside.notes.items c.args.note c.self.invariant.notes good);
    }
