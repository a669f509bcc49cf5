-- How values are stored in a proof, each as the tuple of its parts. Nothing is claimed here.
use Rattle.std.specs.Prelude.{ℕ, List, refl}
use Rattle.std.specs.Coded.{Coded, code_by, coded×, coded_ℕ, coded_list}
use Rattle.std.specs.FinMap as map
use Rattle.escrow_desk.specs.Content.{Content, Files}
use Rattle.escrow_desk.specs.Counts.{Counts}
use Rattle.escrow_desk.specs.Memory.{MemoryState}

-- of files
abbrev pub files_code : Coded Files
files_code = map.code (coded_list coded_ℕ) (coded_list coded_ℕ)

-- of content
abbrev pub content_code : Coded Content
content_code = code_by (Files × List ℕ) (coded× files_code (coded_list coded_ℕ)) (λ c. (c.files, c.said)) (λ p. record { files = p.0; said = p.1 }) (λ _. refl)

-- of the counts of a desk
abbrev pub counts_code : Coded Counts
counts_code = code_by (ℕ × (ℕ × ℕ)) (coded× coded_ℕ (coded× coded_ℕ coded_ℕ)) (λ c. (c.read_faults, (c.write_faults, c.absences))) (λ p. record { read_faults = p.0; write_faults = p.1.0; absences = p.1.1 }) (λ _. refl)

-- of a desk in memory
abbrev pub memory_state_code : Coded MemoryState
memory_state_code =
    code_by (Content × (List ℕ × (ℕ × (ℕ × Counts)))) (coded× content_code (coded× (coded_list coded_ℕ) (coded× coded_ℕ (coded× coded_ℕ counts_code))))
    (λ s. (s.content, (s.failing, (s.calls, (s.starved, s.counts)))))
    (λ p. record { content = p.0; failing = p.1.0; calls = p.1.1.0; starved = p.1.1.1.0; counts = p.1.1.1.1 })
    (λ _. refl)
