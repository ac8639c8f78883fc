use Rattle.std.proofs.Common.{◌≡◌, ℕ, ◌<◌, length, map, List, sym, ◌∙◌, ap, subst, arith}
use Rattle.std.specs.List.{range_with_len}
use Rattle.std.proofs.lemmas.Result.{IfOk-weaker}
use Rattle.jav_names.specs.Ancestors.{Extends, HasClass}
use Rattle.jav_names.specs.LookUps.{is_in_circle}
use Rattle.jav_names.proofs.UnitsOrdered.{classes_of-ordered}
use Rattle.jav_scope.specs.Entries.{units_of, classes_in, view_in}
use Rattle.jav_scope.specs.declared.source.SourceUnit.{SourceUnit}
use Rattle.jav_scope.specs.ascent.Circles.{AreReached}
use Rattle.jav_scope.specs.ascent.Walked.{LeadsFar}
use Rattle.jav_scope.proofs.ascent_lemmas.ClassNumbers.{class-below, extending-below}
use Rattle.jav_scope.proofs.ascent_lemmas.Rounds.{circles-are, links-within}
use Rattle.jav_scope.proofs.ascent.super_circles.circles.Goals as goal

module _ (sources : List SourceUnit) (count : ℕ) (as_many : count ≡ length sources) where
  numbers : (class : ℕ) → HasClass (classes_in sources) class → class < count
  numbers class has = omega (arith, class-below sources class has, as_many)

  known : (class above : ℕ) → Extends (view_in sources) class above → class < count
  known class above extends = omega (arith, extending-below sources class above extends, as_many)

pub far-requires : goal.far-requires
far-requires c =
    let sources = c.args.scope.now in
    links-within (view_in sources) (classes_of-ordered (units_of sources)) c.args.count
    (numbers sources c.args.count c.requires) (known sources c.args.count c.requires) c.as_slice.result.now
    (c.as_slice.ensures.value ∙ c.in_ok-links.ensures)

pub returns : goal.returns
returns c =
    let sources = c.args.scope.now in
    let view = view_in sources in
    let links = c.as_slice.result.now in
    let far = c.as_slice-2.result.now in
    let leads : LeadsFar links far = subst (LeadsFar links) (sym c.as_slice-2.ensures.value) c.in_ok-far.ensures in
    IfOk-weaker c.reached.result (λ reached. AreReached far c.args.count reached.items)
    (λ circles. circles.items ≡ map (is_in_circle view) (range_with_len 0 (length sources)))
    (λ reached marks. circles-are view (classes_of-ordered (units_of sources)) c.args.count
    (numbers sources c.args.count c.requires) (known sources c.args.count c.requires) links
    (c.as_slice.ensures.value ∙ c.in_ok-links.ensures) far leads reached.items marks
    ∙ ap (λ n. map (is_in_circle view) (range_with_len 0 n)) c.requires)
    c.reached.ensures
