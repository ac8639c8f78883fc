-- The limit of number that the grammar keeps bounds the width of each member and source file.
use Rattle.std.proofs.Common.{ℕ, ◌≤◌, List, [], ◌∷◌, ◌++◌, length, map, Option, arith}
use Rattle.std.proofs.lemmas.List.{length-map}
use Rattle.mol_base.specs.Token.{Token}
use Rattle.jav_tree.specs.declared.types.TypeName.{TypeName}
use Rattle.jav_tree.specs.declared.stmt.Declarator.{Declarator}
use Rattle.jav_tree.specs.declared.unit.Member.{Member}
use Rattle.jav_tree.specs.declared.unit.Param.{Param}
use Rattle.jav_tree.specs.declared.unit.Unit.{Unit as Source}
use Rattle.jav_tree.specs.Height.{tallest}
use Rattle.jav_tree.specs.Members.{Result, Parameter, ParameterList, Parameters, Declared, Body, field_of, fields_of}
use Rattle.jav_tree.specs.Members as mem
use Rattle.jav_tree.specs.Statements.{Variables, fronted, tailed}
use Rattle.jav_tree.specs.Statements as st
use Rattle.jav_tree.specs.Units.{SourceFile}
use Rattle.jav_tree.specs.Units as units
use Rattle.jav_tree.specs.Widths.{type_width, counted, param_width, member_width, unit_width}
use Rattle.jav_print_laws.proofs.printable_lemmas.Types.{whole_width, width-Void}
use Rattle.jav_print_laws.proofs.printable_lemmas.Widths.{narrow, max_within}
use Rattle.jav_print_laws.proofs.printable_lemmas.WidthsStatements.{fronted_within, width_of_variable, width_of_lines, width_of_constructor}

-- the greatest width of some members
abbrev members_width : List Member → ℕ
members_width ms = tallest (map member_width ms)

width_of_result : {limit : ℕ} {to : TypeName} {ts : List Token} → Result limit to ts → type_width to ≤ limit
width_of_result {limit} (mem.void _) = narrow _ 0 limit width-Void (omega arith)
width_of_result (mem.type t) = whole_width t

width_of_parameter : {limit : ℕ} {p : Param} {ts : List Token} → Parameter limit p ts → param_width p ≤ limit
width_of_parameter (mem.parameter _ t _) = whole_width t

width_of_list : {limit : ℕ} {ps : List Param} {ts : List Token} → ParameterList limit ps ts → tallest (map param_width ps) ≤ limit
width_of_list (mem.last p) = max_within _ 0 _ (width_of_parameter p) (omega arith)
width_of_list (mem.more p _ q) = max_within _ _ _ (width_of_parameter p) (width_of_list q)

width_of_parameters : {limit : ℕ} {ps : List Param} {ts : List Token} → Parameters limit ps ts → counted (map param_width ps) ≤ limit
width_of_parameters {limit} (mem.none _ _) = max_within 0 0 limit (omega arith) (omega arith)
width_of_parameters {limit} (mem.some {ps = ps} _ p _ few) = max_within _ _ limit (let many : length (map param_width ps) ≤ limit = rw (length-map ps param_width) few in many) (width_of_list p)

width_of_field : (limit : ℕ) (front : List (List ℕ)) (at : ℕ) (words : List (List ℕ)) (to : TypeName) {h : ℕ} {d : ℕ × Declarator} {ts : List Token} → type_width to ≤ limit → st.Variable limit h d ts
    → member_width (field_of front at words to d.1) ≤ limit
width_of_field limit front at words to few p = max_within _ _ limit few (width_of_variable p)

width_of_further : {limit h : ℕ} {ds : List (ℕ × Declarator)} {ts : List Token} (words : List (List ℕ)) (to : TypeName) → type_width to ≤ limit → Variables limit h ds ts
    → members_width (map (λ d. field_of [] d.0 words to d.1) ds) ≤ limit
width_of_further words to few (st.last {d = d} p) = max_within _ 0 _ (width_of_field _ [] d.0 words to few p) (omega arith)
width_of_further words to few (st.more {d = d} p _ q) = max_within _ _ _ (width_of_field _ [] d.0 words to few p) (width_of_further words to few q)

width_of_fields : {limit h : ℕ} {ds : List (ℕ × Declarator)} {ts : List Token} (front : List (List ℕ)) (at : ℕ) (words : List (List ℕ)) (to : TypeName) → type_width to ≤ limit → Variables limit h ds ts
    → members_width (fields_of front at words to ds) ≤ limit
width_of_fields front at words to few (st.last p) = max_within _ 0 _ (width_of_field _ front at words to few p) (omega arith)
width_of_fields front at words to few (st.more p _ q) = max_within _ _ _ (width_of_field _ front at words to few p) (width_of_further words to few q)

pub width_of_declared : {limit : ℕ} {class : Option (List ℕ)} {h : ℕ} {ms : List Member} {ts : List Token} → Declared limit class h ms ts → members_width ms ≤ limit
width_of_declared (mem.field _ _ _ t p _) = width_of_fields _ _ _ _ (whole_width t) p
width_of_declared (mem.method {comments = comments} {tail} {items = items} _ _ _ r _ p _ b) =
    max_within _ 0 _ (max_within _ _ _ (width_of_result r) (max_within _ _ _ (width_of_parameters p) (fronted_within _ comments (tailed comments items tail) items (width_of_lines b)))) (omega arith)
width_of_declared (mem.abstract_method _ _ _ r _ p _) = max_within _ 0 _ (max_within _ _ _ (width_of_result r) (max_within _ 0 _ (width_of_parameters p) (omega arith))) (omega arith)
width_of_declared (mem.constructor_of {comments = comments} {tail} {items = items} _ _ _ _ _ p _ b) =
    max_within _ 0 _ (max_within _ _ _ (width_of_parameters p) (fronted_within _ comments (tailed comments items tail) items (width_of_constructor b))) (omega arith)

of_both : (limit : ℕ) (ms ns : List Member) → members_width ms ≤ limit → members_width ns ≤ limit → members_width (ms ++ ns) ≤ limit
of_both limit [] ns few fewer = fewer
of_both limit (m ∷ ms) ns few fewer = max_within _ _ limit (omega arith) (of_both limit ms ns (omega arith) fewer)

width_of_members : {limit : ℕ} {class : Option (List ℕ)} {h : ℕ} {ms : List Member} {ts : List Token} → Body limit class h ms ts → members_width ms ≤ limit
width_of_members mem.none = omega arith
width_of_members (mem.more {ms = ms} {ns} p q) = of_both _ ms ns (width_of_declared p) (width_of_members q)

pub width_of_unit : {limit h : ℕ} {u : Source} {ts : List Token} → SourceFile limit h u ts → unit_width u ≤ limit
width_of_unit (units.source _ _ _ _ _ _ _ _ _ _ _ _ p _ _ _) = width_of_members p
