-- What is known of the rule of source files, whose imports are sorted after they were read, and so of the call that reads one.
use Rattle.std.proofs.Common.{◌≡◌, ◌⊎◌, inl, inr, ℕ, ◌<◌, true, List, [], length, Result, Ok, Err, IfOk, refl, sym, ap, ap₂, ◌∙◌, subst, arith}
use Rattle.std.specs.Global.{Global}
use Rattle.mol_base.specs.Token.{Token}
use Rattle.jav_tree.specs.declared.unit.Unit.{Unit as Source}
use Rattle.jav_tree.specs.Trees.{IsUnit}
use Rattle.jav_tree.specs.Units.{AscendingOf}
use Rattle.jav_parse_unit.specs.BadToken.{units, most_items, most_height, IsFault}
use Rattle.jav_parse_unit.specs.declared.fault.ParseFault.{ParseFault}
use Rattle.jav_parse_unit.specs.declared.fault.ParseFault.TheVariants as fault
use Rattle.jav_parse_cursor.specs.declared.limits.Limits.{Limits}
use Rattle.jav_parse_unit.specs.declared.reading.Language.TheVariants as asked
use Rattle.jav_parse_cursor.specs.Reading.{Outcome}
use Rattle.jav_parse_unit.specs.UnitRules.{unit}
use Rattle.jav_parse_unit.specs.WholeRules.{limits_for, is_whole, AnswersSorted}
use Rattle.jav_parse.proofs.Ascending.{ordered, ascending, ascending_alone}
use Rattle.jav_parse.proofs.Calls.{viable_by, bad_answer, only_err, ok_is, ok_err}
use Rattle.jav_parse.proofs.FirstBad.{ReadsLanguage}
use Rattle.jav_parse.proofs.Languages.{agree_source}
use Rattle.jav_parse.proofs.LookaheadUnit.{local_unit}
use Rattle.jav_parse.proofs.SoundActions.{expression_laws}
use Rattle.jav_parse.proofs.SoundTrees.{sorted_unit}
use Rattle.jav_parse.proofs.SoundUnits.{IsSource, reads_unit}
use Rattle.jav_parse.proofs.TreeLanguages.{building}
use Rattle.jav_parse.proofs.Wider.{wider_source_file}

-- each source file is read whole, with its imports in some order
abbrev pub ReadsSource : Type 0
ReadsSource = (l : Limits) (d : ℕ) → l.builds ≡ true → 0 < l.most → (u : Source) (ts : List Token) → IsUnit l.most d u ts → length ts < l.turns
    → (names : List (List ℕ)) × (unit l d ts ≡ Ok (record u { imports = names }, [])) × AscendingOf names u.imports

reads_units : ReadsSource → ReadsLanguage units asked.Unit unit
reads_units whole = record {
  asked_is = λ l d ts. refl;
  local = local_unit;
  agree = λ l k d e like tops. agree_source l k d e like tops;
  viable = λ l d b some high ts.
      let good = building l b some in
      let laws = expression_laws l good in
      viable_by units (IsSource l good laws d high) l.most d
      (λ y us s. (record y { imports = ordered y.imports }, (s.height, s.low, s.is (ordered y.imports) (ascending y.imports)))) ts (unit l d ts) ((reads_unit l good laws d high).at ts tt);
  whole = λ l d b some ts t few. let k = whole l d b some t.0 ts t.1 few in ap is_whole k.1;
  higher = λ le t. (t.0, (t.1.0, (let w = t.1.1 in omega arith), t.1.2));
  wider = λ le t. (t.0, (t.1.0, t.1.1, wider_source_file le t.1.2));
}

module _ (whole : ReadsSource) (alloc : Global) (ts : List Token) where
  -- the clause `tree`
  pub unit_tree : (r : Result Source ParseFault) → AnswersSorted alloc ts (unit (limits_for alloc ts most_items true) most_height ts) r → IfOk r (λ u. IsUnit most_items most_height u ts)
  unit_tree (Ok u) a =
      let l = limits_for alloc ts most_items true in
      let good = building l refl (omega arith) in
      sorted_unit l good (expression_laws l good) most_height (omega arith) ts u a.0 a.1 a.2
  unit_tree (Err f) a = tt

  same_source : (u v : Source) (names others : List (List ℕ)) → ◌≡◌ {A = Outcome Source} (Ok (record u { imports = names }, [])) (Ok (record v { imports = others }, []))
      → AscendingOf names u.imports → AscendingOf others v.imports → u ≡ v
  same_source u v names others e a b =
      let same : record u { imports = names } ≡ record v { imports = others } = ok_is e in
      let order : names ≡ others = ap (λ w. w.imports) same in
      ap₂ {A = Source} (λ w n. record w { imports = n }) same (ascending_alone others u.imports v.imports (subst (λ n. AscendingOf n u.imports) order a) b)

  -- the clause `only`
  pub unit_only : (u : Source) → IsUnit most_items most_height u ts → (r : Result Source ParseFault) → AnswersSorted alloc ts (unit (limits_for alloc ts most_items true) most_height ts) r
      → (r ≡ Ok u) ⊎ (r ≡ Err fault.OutOfMemory)
  unit_only u t (Ok v) a =
      let k = whole (limits_for alloc ts most_items true) most_height refl (omega arith) u ts t (omega arith) in
      inl (ap Ok (sym (same_source u v k.0 a.0 (sym k.1 ∙ a.1) k.2 a.2)))
  unit_only u t (Err f) a =
      let k = whole (limits_for alloc ts most_items true) most_height refl (omega arith) u ts t (omega arith) in
      inr (only_err alloc asked.Unit ts (unit (limits_for alloc ts most_items true) most_height ts) (record u { imports = k.0 }) k.1 f a)

  -- the clause `bad`
  pub unit_bad : (r : Result Source ParseFault) → AnswersSorted alloc ts (unit (limits_for alloc ts most_items true) most_height ts) r
      → (f : ParseFault) → r ≡ Err f → (f ≡ fault.OutOfMemory) ⊎ IsFault units ts f
  unit_bad (Ok u) a f e = absurd (ok_err e)
  unit_bad (Err g) a f e = bad_answer units asked.Unit unit (reads_units whole) alloc ts (Err g) a f e
