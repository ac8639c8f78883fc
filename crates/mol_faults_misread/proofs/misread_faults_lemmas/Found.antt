-- What is misread in the files of the classes that live are the faults of misread names.
use Rattle.std.proofs.Common.{◌≡◌, ◌≢◌, ◌↔◌, ℕ, ◌+◌, Bool, true, false, ◌&&◌, not, if◌then◌else◌, List, [], map, Option, None, Some, Contains, IsTrue, IsFalse, is_some, refl, sym, ap, ◌∙◌, subst, arith, true≢false}
use Rattle.std.proofs.lemmas.Bool.{and_parts}
use Rattle.std.specs.FinMap.{get}
use Rattle.std.specs.List.Sorted.{IsStrictlySortedBy}
use Rattle.jav_names.proofs.Lists.{Decides-fails, Decides-not, stands-mapped, stands_nowhere}
use Rattle.mol_faults_expr.proofs.AnswersTested.{tested}
use Rattle.mol_faults_expr.specs.Answers.{is_answer}
use Rattle.mol_base.specs.declared.ident.Id.{Id}
use Rattle.mol_faults_expr.specs.Noted.{is_misread, misreading, none_noted, noted_after}
use Rattle.mol_faults_expr.specs.Readings.{program_target}
use Rattle.mol_faults_rules.specs.OfKind.{AreOfKind}
use Rattle.mol_faults_misread.proofs.misread_faults_lemmas.MisreadRows.{IsRow, rows-are, rows-stand}
use Rattle.mol_faults_misread.proofs.misread_faults_lemmas.SameRows.{ordered-alike, row_cmp}
use Rattle.mol_faults_misread.specs.misread_faults.Found.{AreMisread, Found, IsMisread, IsMisreadAs, all_misreads, cell_misreads, class_misreads, fault_in, fault_of, file_misreads, found_at}
use Rattle.mol_faults_misread.specs.declared.misread_faults.row.Row.{Row}
use Rattle.mol_base.proofs.Mapped.{sorted-mapped}
use Rattle.mol_spell_rules.specs.references.References.{Target}
use Rattle.mol_resolve_rules.proofs.Stands.{from_each, from_map, in_each}
use Rattle.mol_spell_rules.specs.Answers.{answered}
use Rattle.mol_spell_rules.specs.FaultList.{Fault, FaultKey, FaultTarget, IsFault, by_absence, by_address, by_local, by_outside_name, by_override, by_package, by_place, by_reading, cell_key, default_of, entity, fault_cmp, fault_key, fault_target, local_of, misread, outside_of, target_key}
use Rattle.mol_spell_rules.specs.NameFaults.{Misread, MisreadIn, is_gone, unit_reader}
use Rattle.mol_spell_rules.specs.SimpleNames.{imports_in, is_simple_in, unit_references, unit_writer}
use Rattle.mol_spell_rules.specs.UnitCells.{printed_cells}
use Rattle.mol_spell_rules.specs.Writers.{Reference, Writer}
use Rattle.mol_table_rules.specs.Identities.{AreKnown}
use Rattle.mol_table_rules.specs.Program.{Program, living_at}
use Rattle.mol_table_rules.specs.Renumber.{is_class, is_living_class}
use Rattle.mol_table_rules.specs.Tidy.{tidy}
use Rattle.mol_values_types.specs.declared.cell.Cell.{Cell}
use Rattle.mol_values_types.specs.declared.known.Known.{Known}

-- ---- a reference

not-true : (b : Bool) → not b ≡ true → b ≡ false
not-true true is = absurd (true≢false (sym is))
not-true false is = refl

-- it is misread where its target is there, and it does not read as that
reads-apart : (writer : Writer) (reference : Reference) → is_misread writer reference ≡ true
    → IsFalse (is_gone writer.program reference.target) × (answered writer.reader reference ≢ Some reference.target)
reads-apart writer reference is =
    let read = answered writer.reader reference in
    let both = and_parts (not (is_gone writer.program reference.target)) (not (is_answer reference.target read)) is in (
      not-true (is_gone writer.program reference.target) both.0,
      Decides-not (tested reference.target read) (not-true (is_answer reference.target read) both.1),
    )

apart-misread : (writer : Writer) (reference : Reference) → IsFalse (is_gone writer.program reference.target)
    → answered writer.reader reference ≢ Some reference.target → is_misread writer reference ≡ true
apart-misread writer reference there differs =
    λ i. not (there i) && not (Decides-fails (tested reference.target (answered writer.reader reference)) differs i)

-- ---- in the files of a program

class-known : (known : Option Known) → is_class known ≡ true → is_some known ≡ true
class-known None is = absurd (true≢false (sym is))
class-known (Some known) is = refl

module _ (program : Program) where
  -- in a cell
  in-cell : (class : Id) (at : Cell) (name : Found) → IsTrue (is_living_class program class) → Contains (printed_cells program class) at
      → Contains (cell_misreads program (imports_in program class) (is_simple_in program class) class at) name → IsMisread program name
  in-cell class at name lives prints stands =
      let writer = unit_writer program class at in
      let references = unit_references program class at in
      let row = from_map (found_at at) (noted_after writer none_noted references).misread name stands in
      let found : IsRow writer 0 references row.0 = rows-are writer references row.0 row.1 in
      let apart = reads-apart writer found.reference found.misread in
      let number : found.place ≡ 0 + found.place = omega arith in
      subst (IsMisread program)
      (ap (λ (n : ℕ). found_at at (misreading writer n found.reference)) number ∙ ap (found_at at) found.is ∙ row.2) (record {
        class = class;
        target = found.reference.target;
        misread = record {
          class_lives = lives;
          prints = prints;
          reference = found.reference;
          stands = found.stands;
          names = refl;
          there = apart.0;
          differs = apart.1;
        };
        is_target = refl;
        is_named = refl;
        is_instead = refl;
      })

  in-class : (class : Id) (name : Found) (lives : Bool) → is_living_class program class ≡ lives
      → Contains (if lives then file_misreads program class else []) name → IsMisread program name
  in-class class name false is stands = absurd (stands_nowhere name stands)
  in-class class name true is stands =
      let found = from_each (cell_misreads program (imports_in program class) (is_simple_in program class) class)
      (printed_cells program class) name stands in
      in-cell class found.0 name is found.1 found.2

  -- what is found is misread in a file
  in-files : (ids : List Id) (name : Found) → Contains (all_misreads program ids) name → IsMisread program name
  in-files ids name stands =
      let found = from_each (class_misreads program) ids name stands in
      in-class found.0 name (is_living_class program found.0) refl found.2

  -- a name that is misread in a file
  abbrev name-read : (class : Id) (at : Cell) (number : ℕ) (target : Target) → MisreadIn program class at number target → Found
  name-read class at number target reads = found_at at (misreading (unit_writer program class at) number reads.reference)

  -- and what is misread in a file is found
  is-found : (ids : List Id) → AreKnown program ids → (class : Id) (at : Cell) (number : ℕ) (target : Target)
      (reads : MisreadIn program class at number target) → Contains (all_misreads program ids) (name-read class at number target reads)
  is-found ids known class at number target reads =
      let writer = unit_writer program class at in
      let name = name-read class at number target reads in
      let of_cell = cell_misreads program (imports_in program class) (is_simple_in program class) class in
      let is : is_misread writer reads.reference ≡ true = apart-misread writer reads.reference
      (subst (λ (t : Target). IsFalse (is_gone program t)) (sym reads.names) reads.there)
      (subst (λ (t : Target). answered (unit_reader program class at) reads.reference ≢ Some t) (sym reads.names) reads.differs) in
      let in_cell : Contains (of_cell at) name =
      stands-mapped (found_at at) (noted_after writer none_noted (unit_references program class at)).misread
      (misreading writer number reads.reference)
      (rows-stand writer (unit_references program class at) number reads.reference reads.stands is) in
      in_each (class_misreads program) ids class name
      ((known class).1 (class-known (get program.known class)
      (and_parts (is_class (get program.known class)) (living_at program class) reads.class_lives).0))
      (subst (λ (lives : Bool). Contains (if lives then file_misreads program class else []) name) (sym reads.class_lives)
      (in_each of_cell (printed_cells program class) at name reads.prints in_cell))

  -- it is this one
  read-is : (name : Found) (is : IsMisread program name) → name-read is.class name.at name.name.number is.target is.misread ≡ name
  read-is name is = λ i. found_at name.at (record {
    number = name.name.number;
    target = (ap fault_target is.misread.names ∙ is.is_target) i;
    named = (ap program_target is.misread.names ∙ is.is_named) i;
    instead = is.is_instead i;
  })

  are-misread : (ids : List Id) → AreKnown program ids → (name : Found)
      → Contains (all_misreads program ids) name ↔ IsMisread program name
  are-misread ids known name = (
    in-files ids name,
    λ is. subst (Contains (all_misreads program ids)) (read-is name is)
        (is-found ids known is.class name.at name.name.number is.target is.misread),
  )

  -- these are all of them
  pub all-misread : (ids : List Id) → AreKnown program ids → (found : List Found) → found ≡ all_misreads program ids
      → (name : Found) → Contains found name ↔ IsMisread program name
  all-misread ids known found is name =
      subst (λ (found : List Found). Contains found name ↔ IsMisread program name) (sym is) (are-misread ids known name)

-- ---- the faults

kind-kept : (target : FaultTarget) (key : FaultKey) → (target_key target key).kind ≡ key.kind
kind-kept (entity id) key = refl
kind-kept (default_of class) key = refl
kind-kept (local_of number) key = refl
kind-kept (outside_of text) key = refl

-- what stands in one list stands in the other, made into something else
same-mapped : {X Y : Type 0} (make : X → Y) (xs ys : List X) (y : Y) → ((x : X) → Contains xs x → Contains ys x) → Contains (map make xs) y
    → Contains (map make ys) y
same-mapped {X} {Y} make xs ys y all stands =
    let found = from_map make xs y stands in
    subst (Contains (map make ys)) found.2 (stands-mapped make ys found.0 (all found.0 found.1))

module _ (program : Program) (names : List Found) (rows ordered : List Row)
    (are : (name : Found) → Contains names name ↔ IsMisread program name) (found : map fault_of rows ≡ map fault_in names)
    (same : (row : Row) → Contains ordered row ↔ Contains rows row) where
  is-misread : (fault : Fault) → Contains (map fault_of ordered) fault → IsMisreadAs program fault
  is-misread fault stands =
      let name = from_map fault_in names fault (subst (λ (faults : List Fault). Contains faults fault) found
      (same-mapped fault_of ordered rows fault (λ row. (same row).0) stands)) in
      record { found = name.0; misread = (are name.0).0 name.1; is = name.2 }

  is-listed : (fault : Fault) → IsMisreadAs program fault → Contains (map fault_of ordered) fault
  is-listed fault is =
      same-mapped fault_of rows ordered fault (λ row. (same row).1)
      (subst (λ (faults : List Fault). Contains faults fault) (sym found)
      (subst (Contains (map fault_in names)) is.is (stands-mapped fault_in names is.found ((are is.found).1 is.misread))))

  pub faults-misread : IsStrictlySortedBy row_cmp ordered → AreMisread program (map fault_of ordered)
  faults-misread sorted = record {
    ascending = sorted-mapped row_cmp fault_cmp fault_of ordered-alike ordered sorted;
    each = λ fault. (is-misread fault, is-listed fault);
  }

-- Those of a program once it is tidied are its faults of this kind.
module _ (program tidied : Program) (is-tidied : tidied ≡ tidy program) (faults : List Fault) (are : AreMisread tidied faults) where
  is-fault : (fault : Fault) → IsMisreadAs tidied fault → IsFault program fault × ((fault_key fault).kind ≡ 5)
  is-fault fault is =
      let name = is.found in
      let here = is.misread in
      let reads : Misread program name.at name.name.number here.target = record {
        class = here.class;
        misread = subst (λ (p : Program). MisreadIn p here.class name.at name.name.number here.target) is-tidied here.misread;
      } in
      subst (λ (f : Fault). IsFault program f × ((fault_key f).kind ≡ 5))
      (ap (misread name.at name.name.number) here.is_target ∙ is.is)
      (by_reading reads, kind-kept (fault_target here.target) (record (cell_key 5 name.at) { number = name.name.number }))

  stands-fault : (fault : Fault) → IsFault program fault → (fault_key fault).kind ≡ 5 → Contains faults fault
  stands-fault fault (by_reading {at = at} {number = number} {target = target} reads) kind =
      let here = subst (λ (p : Program). MisreadIn p reads.class at number target) (sym is-tidied) reads.misread in
      (are.each fault).1 (record {
        found = name-read tidied reads.class at number target here;
        misread = record {
          class = reads.class;
          target = target;
          misread = here;
          is_target = sym (ap fault_target here.names);
          is_named = sym (ap program_target here.names);
          is_instead = refl;
        };
        is = ap (λ (t : Target). misread at number (fault_target t)) here.names;
      })
  stands-fault fault (by_address h) kind = absurd (omega (arith, kind))
  stands-fault fault (by_override h) kind = absurd (omega (arith, kind))
  stands-fault fault (by_place h) kind = absurd (omega (arith, kind))
  stands-fault fault (by_outside_name h) kind = absurd (omega (arith, kind))
  stands-fault fault (by_absence h) kind = absurd (omega (arith, kind))
  stands-fault fault (by_local h) kind = absurd (omega (arith, kind))
  stands-fault fault (by_package h) kind = absurd (omega (arith, kind))

  pub are-of-kind : AreOfKind program 5 faults
  are-of-kind = record {
    ascending = are.ascending;
    each = λ fault. (λ stands. is-fault fault ((are.each fault).0 stands), λ is. stands-fault fault is.0 is.1);
  }
