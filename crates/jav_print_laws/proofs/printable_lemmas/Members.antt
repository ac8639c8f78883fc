-- Members of the grammar are printable.
use Rattle.std.proofs.Common.{◌≡◌, ℕ, true, List, [], ◌∷◌, ◌++◌, map, Option, refl}
use Rattle.std.specs.Prelude.{All}
use Rattle.std.specs.List.{list_all}
use Rattle.std.proofs.lemmas.Bool.{and_parts}
use Rattle.std.proofs.lemmas.List.Elements.{All-nil, All-cons, All-append}
use Rattle.mol_base.specs.Token.{Token}
use Rattle.mol_base.specs.Modifiers.{field_words, constructor_words}
use Rattle.jav_tree.specs.declared.types.TypeName.{TypeName}
use Rattle.jav_tree.specs.declared.stmt.Declarator.{Declarator}
use Rattle.jav_tree.specs.declared.unit.Member.{Member}
use Rattle.jav_tree.specs.declared.unit.Param.{Param}
use Rattle.jav_tree.specs.Members.{Result, Parameter, ParameterList, Parameters, Declared, Body, field_of, fields_of}
use Rattle.jav_tree.specs.Members as mem
use Rattle.jav_tree.specs.Printable.{is_param, IsPrintableMember}
use Rattle.jav_tree.specs.PrintableExpressions.{type_uses}
use Rattle.jav_tree.specs.PrintableStatements.{if_any, is_first_value, is_declarator}
use Rattle.jav_tree.specs.Statements.{Variables, fronted, tailed}
use Rattle.jav_tree.specs.Statements as st
use Rattle.jav_tree.specs.TokenTexts.{is_name, are_comments}
use Rattle.jav_tree.specs.Words.{FieldWords, in_order}
use Rattle.jav_print_laws.proofs.printable_lemmas.Expressions.{both}
use Rattle.jav_print_laws.proofs.printable_lemmas.Names.{Known, split, name_is, comments_are}
use Rattle.jav_print_laws.proofs.printable_lemmas.Statements.{block_is, constructor_block_is, fronted_are, fronted_constructor, tailed_are, variable_is, block_of_is, constructor_is}
use Rattle.jav_print_laws.proofs.printable_lemmas.Types.{IsAnyType, whole_is, void_is}
use Rattle.jav_print_laws.proofs.printable_lemmas.Words.{allowed-in_order, in_order-twice, static-kept, abstract-kept}

-- # Results and parameters

result_is : {limit : ℕ} {to : TypeName} {ts : List Token} → Result limit to ts → Known ts → (type_uses to).is_result ≡ true
result_is (mem.void _) k = void_is
result_is (mem.type t) k = (whole_is t k).result

parameter_is : {limit : ℕ} {p : Param} {ts : List Token} → Parameter limit p ts → Known ts → is_param p ≡ true
parameter_is (mem.parameter {t = t} {ts = ts} {us} _ to n) k =
    let s = split us (t ∷ []) (split ts (us ++ t ∷ []) k).1 in both (whole_is to s.0).type (name_is t n s.1.0)

listed_are : {limit : ℕ} {ps : List Param} {ts : List Token} → ParameterList limit ps ts → Known ts → list_all is_param ps ≡ true
listed_are (mem.last p) k = both (parameter_is p k) refl
listed_are (mem.more {comma = comma} {ts} {us} p _ q) k = let s = split ts (comma ∷ us) k in both (parameter_is p s.0) (listed_are q s.1.1)

parameters_are : {limit : ℕ} {ps : List Param} {ts : List Token} → Parameters limit ps ts → Known ts → list_all is_param ps ≡ true
parameters_are (mem.none _ _) k = refl
parameters_are (mem.some {right = right} {ts = ts} _ p _ _) k = listed_are p (split ts (right ∷ []) k.1).0

-- # Fields

field_is : (front : List (List ℕ)) (at : ℕ) (words : List (List ℕ)) (to : TypeName) (d : Declarator) → are_comments front ≡ true → FieldWords words → IsAnyType to → is_declarator d ≡ true
    → IsPrintableMember (field_of front at (in_order words) to d)
field_is front at words to d comments allowed typed declared =
    let parts = and_parts (is_name d.name) (if_any is_first_value d.init) declared in
    record { comments = comments; allowed = allowed-in_order field_words words allowed; ordered = in_order-twice words; typed = typed.type; named = parts.0; first_value = parts.1 }

further_are : {limit h : ℕ} {ds : List (ℕ × Declarator)} {ts : List Token} (words : List (List ℕ)) (to : TypeName) → FieldWords words → IsAnyType to → Variables limit h ds ts → Known ts
    → All IsPrintableMember (map (λ e. field_of [] e.0 (in_order words) to e.1) ds)
further_are words to allowed typed (st.last {d = d} p) k = All-cons IsPrintableMember (field_of [] d.0 (in_order words) to d.1) [] (field_is [] d.0 words to d.1 refl allowed typed (variable_is p k)) (All-nil IsPrintableMember)
further_are words to allowed typed (st.more {comma = comma} {d} {ds} {ts} {us} p _ q) k =
    let s = split ts (comma ∷ us) k in
    All-cons IsPrintableMember (field_of [] d.0 (in_order words) to d.1) (map (λ e. field_of [] e.0 (in_order words) to e.1) ds)
    (field_is [] d.0 words to d.1 refl allowed typed (variable_is p s.0)) (further_are words to allowed typed q s.1.1)

fields_are : {limit h : ℕ} {ds : List (ℕ × Declarator)} {ts : List Token} (front : List (List ℕ)) (at : ℕ) (words : List (List ℕ)) (to : TypeName) → are_comments front ≡ true → FieldWords words → IsAnyType to
    → Variables limit h ds ts → Known ts → All IsPrintableMember (fields_of front at (in_order words) to ds)
fields_are front at words to comments allowed typed (st.last {d = d} p) k =
    All-cons IsPrintableMember (field_of front at (in_order words) to d.1) [] (field_is front at words to d.1 comments allowed typed (variable_is p k)) (All-nil IsPrintableMember)
fields_are front at words to comments allowed typed (st.more {comma = comma} {d} {ds} {ts} {us} p _ q) k =
    let s = split ts (comma ∷ us) k in
    All-cons IsPrintableMember (field_of front at (in_order words) to d.1) (map (λ e. field_of [] e.0 (in_order words) to e.1) ds)
    (field_is front at words to d.1 comments allowed typed (variable_is p s.0)) (further_are words to allowed typed q s.1.1)

-- # Members

one_member : (m : Member) → IsPrintableMember m → All IsPrintableMember (m ∷ [])
one_member m is = All-cons IsPrintableMember m [] is (All-nil IsPrintableMember)

pub declared_are : {limit : ℕ} {class : Option (List ℕ)} {h : ℕ} {ms : List Member} {ts : List Token} → Declared limit class h ms ts → Known ts → All IsPrintableMember ms
declared_are (mem.field {semi = semi} {front} {words} {to} {ds} {ts} {us} {vs} {ws} c _ allowed t p _) k =
    let s1 = split ts (us ++ (vs ++ (ws ++ semi ∷ []))) k in
    let s2 = split us (vs ++ (ws ++ semi ∷ [])) s1.1 in
    let s3 = split vs (ws ++ semi ∷ []) s2.1 in
    fields_are front _ words to (comments_are c s1.0) allowed (whole_is t s3.0) p (split ws (semi ∷ []) s3.1).0
declared_are (mem.method {name = name} {front} {words} {comments} {tail} {to} {ps} {items} {ts} {us} {vs} {ws} {xs} {ys} c _ allowed r n p d b) k =
    let s1 = split ts (us ++ (vs ++ (name ∷ ws ++ (xs ++ ys)))) k in
    let s2 = split us (vs ++ (name ∷ ws ++ (xs ++ ys))) s1.1 in
    let s3 = split vs (name ∷ ws ++ (xs ++ ys)) s2.1 in
    let s4 = split ws (xs ++ ys) s3.1.1 in
    let s5 = split xs ys s4.1 in
    let are = comments_are d s5.0 in
    let block = block_of_is b s5.1 in
    one_member _ (record {
      comments = comments_are c s1.0;
      allowed = (static-kept words allowed).0;
      ordered = (static-kept words allowed).1;
      typed = result_is r s3.0;
      named = name_is name n s3.1.0;
      params = parameters_are p s4.0;
      body = block_is (fronted comments items) (tailed comments items tail) (fronted_are comments items are block.0) (tailed_are comments items tail are block.1);
    })
declared_are (mem.abstract_method {name = name} {semi} {front} {words} {to} {ps} {ts} {us} {vs} {ws} c _ allowed r n p _) k =
    let s1 = split ts (us ++ (vs ++ (name ∷ ws ++ semi ∷ []))) k in
    let s2 = split us (vs ++ (name ∷ ws ++ semi ∷ [])) s1.1 in
    let s3 = split vs (name ∷ ws ++ semi ∷ []) s2.1 in
    one_member _ (record {
      comments = comments_are c s1.0;
      allowed = (abstract-kept words allowed).0;
      ordered = (abstract-kept words allowed).1;
      typed = result_is r s3.0;
      named = name_is name n s3.1.0;
      params = parameters_are p (split ws (semi ∷ []) s3.1.1).0;
      body = refl;
    })
declared_are (mem.constructor_of {name = name} {front} {words} {comments} {tail} {ps} {items} {ts} {us} {vs} {ws} {xs} c _ allowed n _ p d b) k =
    let s1 = split ts (us ++ (name ∷ vs ++ (ws ++ xs))) k in
    let s2 = split us (name ∷ vs ++ (ws ++ xs)) s1.1 in
    let s3 = split vs (ws ++ xs) s2.1.1 in
    let s4 = split ws xs s3.1 in
    let are = comments_are d s4.0 in
    let block = constructor_is b s4.1 in
    one_member _ (record {
      comments = comments_are c s1.0;
      allowed = allowed-in_order constructor_words words allowed;
      ordered = in_order-twice words;
      params = parameters_are p s3.0;
      body = constructor_block_is (fronted comments items) (tailed comments items tail) (fronted_constructor comments items are block.0) (tailed_are comments items tail are block.1);
    })

pub members_are : {limit : ℕ} {class : Option (List ℕ)} {h : ℕ} {ms : List Member} {ts : List Token} → Body limit class h ms ts → Known ts → All IsPrintableMember ms
members_are mem.none k = All-nil IsPrintableMember
members_are (mem.more {ms = ms} {ns} {ts} {us} p q) k = let s = split ts us k in All-append IsPrintableMember ms ns (declared_are p s.0) (members_are q s.1)
