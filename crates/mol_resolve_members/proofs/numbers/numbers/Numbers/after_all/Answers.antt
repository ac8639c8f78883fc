use Rattle.std.proofs.Common.{◌≡◌, List, length, ◌∙◌, ap, arith}
use Rattle.jav_scope.specs.declared.source.SourceUnit.{SourceUnit}
use Rattle.mol_resolve_members.specs.numbers.Given.{first_after}
use Rattle.mol_resolve_members.specs.numbers.Members.{keys_of}
use Rattle.mol_resolve_members.proofs.numbers_lemmas.NumbersHeld.{first-at, firsts-counted, tops-counted}
use Rattle.mol_resolve_members.proofs.numbers.numbers.Numbers.after_all.Goals as goal

pub index-requires : goal.index-requires
index-requires c =
    let kept = c.self.inside in
    omega (
      arith,
      c.len.ensures,
      tops-counted kept.places kept.classes kept.tops.items kept.firsts.items c.self.invariant,
      firsts-counted kept.places kept.classes kept.tops.items kept.firsts.items c.self.invariant,
      kept.firsts.ok.0,
    )

pub returns : goal.returns
returns c =
    let kept = c.self.inside in
    let size : c.len.result ≡ length kept.tops.items = omega (arith, c.len.ensures, kept.tops.ok.0) in
    c.index.ensures
    ∙ first-at kept.places kept.classes kept.tops.items kept.firsts.items c.self.invariant c.len.result (length (keys_of kept.places))
    c.index.result.now (size ∙ tops-counted kept.places kept.classes kept.tops.items kept.firsts.items c.self.invariant) (omega arith)
    ∙ ap (λ (all : List SourceUnit). first_after all (length (keys_of all))) c.self.view_is
