-- The end of a block gives back the scope that it had when the block began.
use Rattle.std.proofs.Common.{◌≡◌, ℕ, length, take, ap, ◌∙◌}
use Rattle.mol_spell_places.specs.body_locals.Kept.{Kept, locals_of}

pub scope_back : (before after ended : Kept) (mark : ℕ) → mark ≡ length before.in_scope
    → ended ≡ record after { in_scope = take mark after.in_scope }
    → locals_of ended ≡ record { declared = (locals_of after).declared; in_scope = take (length before.in_scope) after.in_scope }
scope_back before after ended mark marked is =
    ap locals_of is ∙ (λ i. record { declared = (locals_of after).declared; in_scope = take (marked i) after.in_scope })
