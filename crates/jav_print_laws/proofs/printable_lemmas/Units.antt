-- Source files of the grammar are printable.
use Rattle.std.proofs.Common.{◌≡◌, ℕ, true, List, [], ◌∷◌, ◌++◌, Option, refl}
use Rattle.std.specs.Prelude.{All}
use Rattle.std.specs.List.{list_all}
use Rattle.std.proofs.lemmas.List.Elements.{All-nil, All-cons}
use Rattle.std.proofs.lemmas.List.Sorted.{All-permutation}
use Rattle.std.proofs.lemmas.List.Sums.{list_all-from_AllPass}
use Rattle.mol_base.specs.Modifiers.{class_words}
use Rattle.mol_base.specs.Token.{Token}
use Rattle.jav_tree.specs.declared.types.TypeName.{TypeName}
use Rattle.jav_tree.specs.declared.unit.Unit.{Unit as Source}
use Rattle.jav_tree.specs.Printable.{IsPrintable, is_parent}
use Rattle.jav_tree.specs.TokenTexts.{is_dotted_name, are_comments}
use Rattle.jav_tree.specs.Units.{Named, Imports, Parent, AscendingOf, SourceFile}
use Rattle.jav_tree.specs.Units as units
use Rattle.jav_print_laws.proofs.printable_lemmas.Expressions.{both}
use Rattle.jav_print_laws.proofs.printable_lemmas.Members.{members_are}
use Rattle.jav_print_laws.proofs.printable_lemmas.Names.{Known, split, name_is, comments_are, more_comments, dotted_is}
use Rattle.jav_print_laws.proofs.printable_lemmas.Types.{class_is}
use Rattle.jav_print_laws.proofs.printable_lemmas.Words.{allowed-in_order, in_order-twice}

named_is : {q : List ℕ} {ts : List Token} → Named q ts → Known ts → is_dotted_name q ≡ true
named_is (units.named {semi} {q} {ts} d _) k = dotted_is d (split ts (semi ∷ []) k).0

abbrev Dotted : List ℕ → Type 0
Dotted q = is_dotted_name q ≡ true

imports_are : {names more : List (List ℕ)} {ts : List Token} → Imports names more ts → Known ts → All Dotted names × (are_comments more ≡ true)
imports_are units.none k = (All-nil Dotted, refl)
imports_are (units.import {word} {q} {names} {comments} {more} {ts} {us} {vs} _ n c rest) k =
    let s1 = split ts (us ++ vs) k.1 in
    let s2 = split us vs s1.1 in
    let others = imports_are rest s2.1 in
    (All-cons Dotted q names (named_is n s1.0) others.0, more_comments comments more (comments_are c s2.0) others.1)

sorted_are : (names sorted : List (List ℕ)) → AscendingOf names sorted → All Dotted names → list_all is_dotted_name sorted ≡ true
sorted_are names sorted ascending all = list_all-from_AllPass is_dotted_name sorted (All-permutation Dotted names sorted ascending.same_names all)

parent_is : {parent : Option TypeName} {ts : List Token} → Parent parent ts → Known ts → is_parent parent ≡ true
parent_is units.none k = refl
parent_is (units.extends _ d) k = class_is d k.1

pub unit_is : {limit h : ℕ} {u : Source} {ts : List Token} → SourceFile limit h u ts → Known ts → IsPrintable u
unit_is (units.source {packaged = packaged} {class} {name} {left} {right} {q} {head} {first} {others} {words} {names} {imports} {tail} {last} {parent} {members} {cs} {ps} {fs} {is} {ws} {es} {ms} {ts} {ls} c _ n d i ascending _ allowed _ n' e _ b t _ l) k =
    let s1 = split cs (packaged ∷ ps ++ (fs ++ (is ++ (ws ++ (class ∷ name ∷ es ++ (left ∷ ms ++ (ts ++ right ∷ ls))))))) k in
    let s2 = split ps (fs ++ (is ++ (ws ++ (class ∷ name ∷ es ++ (left ∷ ms ++ (ts ++ right ∷ ls)))))) s1.1.1 in
    let s3 = split fs (is ++ (ws ++ (class ∷ name ∷ es ++ (left ∷ ms ++ (ts ++ right ∷ ls))))) s2.1 in
    let s4 = split is (ws ++ (class ∷ name ∷ es ++ (left ∷ ms ++ (ts ++ right ∷ ls)))) s3.1 in
    let s5 = split ws (class ∷ name ∷ es ++ (left ∷ ms ++ (ts ++ right ∷ ls))) s4.1 in
    let s6 = split es (left ∷ ms ++ (ts ++ right ∷ ls)) s5.1.1.1 in
    let s7 = split ms (ts ++ right ∷ ls) s6.1.1 in
    let s8 = split ts (right ∷ ls) s7.1 in
    let from = imports_are i s4.0 in
    record {
      comments = comments_are c s1.0;
      packaged = named_is n s2.0;
      imports = sorted_are names imports ascending from.0;
      ascending = ascending.ascending;
      class = record {
        comments = both (more_comments first others (comments_are d s3.0) from.1) (more_comments tail last (comments_are t s8.0) (comments_are l s8.1.1));
        allowed = allowed-in_order class_words words allowed;
        ordered = in_order-twice words;
        named = name_is name n' s5.1.1.0;
        parent = parent_is e s6.0;
        members = members_are b s7.0;
      };
    }
