-- Classes and imported types as they are spelled.
use Rattle.std.proofs.Common.{◌≡◌, Bool, false, [], ap, ◌∙◌, if◌then◌else◌}
use Rattle.jav_names.proofs.CutNames.{names_cut}
use Rattle.jav_names.specs.DottedNames.{Name, Dotted, cut}
use Rattle.mol_spell_rules.specs.Writers.{Importable, full_of, simple_of, Writer, spelled, text_of}
use Rattle.mol_spell_expr.specs.Importables.{is_spelled_simply}

-- by the full name, where not by the simple one
pub text-fully : (writer : Writer) (hides : Name → Bool) (what : Importable) → is_spelled_simply writer hides what ≡ false
    → text_of (spelled writer hides what) ≡ full_of writer.program what
text-fully writer hides what is = ap (λ b. text_of (by_test b)) is ∙ names_cut.whole (full_of writer.program what) where
  by_test : Bool → Dotted
  by_test b = if b then record { first = simple_of writer.program what; rest = [] } else cut (full_of writer.program what)
