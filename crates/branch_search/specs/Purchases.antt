-- A portfolio as the purchases of a certificate.
use Rattle.std.specs.Prelude.{ℕ, ◌+◌, nat_lt, if◌then◌else◌, List, [], ◌∷◌, None, Some}
use Rattle.bound_certificate.specs.declared.certificate.Buy.{Buy}
use Rattle.bound_certificate.specs.declared.certificate.Certificate.{Certificate}
use Rattle.proof_tree.specs.declared.tree.TreeNode.{TreeNode}

-- the purchases of lines from a number on: those of which some units are bought, in order
abbrev pub purchases_from : ℕ → List ℕ → List Buy
purchases_from line [] = []
purchases_from line (units ∷ plan) =
    if nat_lt 0 units then record { line = line; units = units } ∷ purchases_from (line + 1) plan else purchases_from (line + 1) plan

-- the purchases of a portfolio: the lines of which some units are bought, in order
abbrev pub purchases_of : List ℕ → List Buy
purchases_of plan = purchases_from 0 plan

-- the certificate of a portfolio, with a gap and a tree
abbrev pub certificate_of : List ℕ → List TreeNode → ℕ → Certificate
certificate_of plan nodes gap = record { buys = Some (purchases_of plan); gap = gap; nodes = nodes }

-- the certificate of a tree without a portfolio
abbrev pub certificate_of_none : List TreeNode → Certificate
certificate_of_none nodes = record { buys = None; gap = 0; nodes = nodes }
