-- What standard error says of a run that was cut off. The words are this project's own.
use Rattle.std.specs.Prelude.{ℕ, List, Option, Some, None, codes}
use Rattle.certificate_answers.specs.declared.status.Status.{Status}
use Rattle.certificate_answers.specs.declared.status.Status.TheVariants as status

-- why the run was cut off; nothing where it came to its answer
abbrev pub complaint_of : Status → Option (List ℕ)
complaint_of status.ReadFault = Some (codes "read fault")
complaint_of status.WriteFault = Some (codes "write fault")
complaint_of status.NoFile = Some (codes "no file")
complaint_of status.NoMemory = Some (codes "no memory")
complaint_of status = None
