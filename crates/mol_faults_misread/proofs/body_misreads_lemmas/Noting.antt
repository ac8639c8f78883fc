-- References that are noted after others.
use Rattle.std.proofs.Common.{◌≡◌, List, [], sym, ap, ◌∙◌}
use Rattle.mol_faults_expr.specs.Noted.{Noted, noted_after}
use Rattle.mol_spell_rules.specs.Writers.{Reference, Writer}

module _ (writer : Writer) where
  -- there are none
  pub notes-none : (so_far : Noted) (whole : List Reference) → whole ≡ [] → so_far ≡ noted_after writer so_far whole
  notes-none so_far whole none = sym (ap (noted_after writer so_far) none)

  -- the same, in other words
  pub notes : (so_far after : Noted) (part whole : List Reference) → whole ≡ part → after ≡ noted_after writer so_far part
      → after ≡ noted_after writer so_far whole
  notes so_far after part whole same noted = noted ∙ ap (noted_after writer so_far) (sym same)
