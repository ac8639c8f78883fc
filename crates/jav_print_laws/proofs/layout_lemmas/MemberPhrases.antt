-- Members as phrases.
use Rattle.std.proofs.Common.{◌≡◌, ℕ, ◌≤◌, Bool, true, false, List, [], ◌∷◌, ◌++◌, codes, Option, Some, None, refl, sym, ap, ◌∙◌, subst, append_assoc, arith}
use Rattle.std.specs.List.{list_all}
use Rattle.std.proofs.lemmas.List.{length-map}
use Rattle.mol_base.specs.Among.{among}
use Rattle.mol_base.specs.Modifiers.{abstract_words}
use Rattle.mol_base.specs.Token.{Token}
use Rattle.mol_base.specs.declared.token_kind.TokenKind.TheVariants as kind
use Rattle.jav_tree.specs.declared.stmt.Block.{Block}
use Rattle.jav_tree.specs.declared.stmt.Declarator.{Declarator}
use Rattle.jav_tree.specs.declared.unit.Ctor.{Ctor}
use Rattle.jav_tree.specs.declared.unit.Field.{Field}
use Rattle.jav_tree.specs.declared.unit.Member.{Member}
use Rattle.jav_tree.specs.declared.unit.Member.TheVariants as member
use Rattle.jav_tree.specs.declared.unit.Method.{Method}
use Rattle.jav_tree.specs.Blocks.{block_of}
use Rattle.jav_tree.specs.EachExpression.{map_block}
use Rattle.jav_tree.specs.Layout.{words_text, override_line, method_words, params_text, member_lines}
use Rattle.jav_tree.specs.Lines.{line_end, indent, comment_lines}
use Rattle.jav_tree.specs.Members.{Result, Parameters, Declared, MayBeConstructor, field_of, fields_of}
use Rattle.jav_tree.specs.Members as members
use Rattle.jav_tree.specs.Places.{unplaced_member, unplaced_field, unplaced_block}
use Rattle.jav_tree.specs.Places as places
use Rattle.jav_tree.specs.Printable.{IsPrintableField, IsPrintableMethod, IsPrintableConstructor, IsPrintableMember}
use Rattle.jav_tree.specs.Statements.{fronted, tailed}
use Rattle.jav_tree.specs.Statements as statements
use Rattle.jav_tree.specs.StatementText.{valued_text, block_text}
use Rattle.jav_tree.specs.TokenTexts.{is_name}
use Rattle.jav_tree.specs.Tokens.{IsSymbol, Comments, start_of}
use Rattle.jav_tree.specs.Tokens as tokens
use Rattle.jav_tree.specs.Types.{WholeType}
use Rattle.jav_tree.specs.TypeText.{type_text}
use Rattle.jav_tree.specs.Widths.{param_width, member_width}
use Rattle.jav_tree.specs.WithParens.{expr_with_parens, member_with_parens}
use Rattle.jav_tree.specs.Words.{Words, FieldWords, MethodWords, AbstractWords, ConstructorWords, in_order, kept_of_method, has}
use Rattle.jav_tree.proofs.ChangedStatements.{block_alike}
use Rattle.jav_print_laws.proofs.layout_lemmas.BlockPhrases.{Unplacing, plain_step, plain_block, Blocked, Bodied, fronted-none, tailed-none}
use Rattle.jav_print_laws.proofs.layout_lemmas.BodyPhrases.{block_phrases}
use Rattle.jav_print_laws.proofs.layout_lemmas.Bytes.{space_breaks, open_breaks}
use Rattle.jav_print_laws.proofs.layout_lemmas.Derivations.{Made}
use Rattle.jav_print_laws.proofs.layout_lemmas.ExpressionPhrases.{whole}
use Rattle.jav_print_laws.proofs.layout_lemmas.LinePhrases.{indented, comments}
use Rattle.jav_print_laws.proofs.layout_lemmas.ModifierPhrases.{ordered_words, method_words_phrase, parameters}
use Rattle.jav_print_laws.proofs.layout_lemmas.Names.{name}
use Rattle.jav_print_laws.proofs.layout_lemmas.OrderedModifiers.{stands_in, kept-in_order, stands-in_order, method_words-in_order, abstract_words-in_order, field_line_words, constructor_line_words, kept_no_static, not_abstract_static}
use Rattle.jav_print_laws.proofs.layout_lemmas.Phrases.{Phrase, Any, Alone, alone, Then, both, OneOf, one_of, makes, then, next_to, space}
use Rattle.jav_print_laws.proofs.layout_lemmas.Signs.{semicolon}
use Rattle.jav_print_laws.proofs.layout_lemmas.StatementParts.{Declares, variable}
use Rattle.jav_print_laws.proofs.layout_lemmas.TypePhrases.{type_phrases}

-- a member as printed, without places
abbrev pub plain_member : Member → Member
plain_member m = unplaced_member (member_with_parens m)

-- the declaration of one member
abbrev pub Membered : ℕ → List ℕ → Member → List Token → Type 0
Membered limit class y = Made unplaced_member (λ h m ts. Declared limit (Some class) h (m ∷ []) ts) y

-- A member, whose lines are its own text and a line end.
pub record MemberPhrase (limit : ℕ) (class : List ℕ) (m : Member) : Type 0 where
  pub own_text : List ℕ
  pub lines_are : member_lines class m ≡ own_text ++ line_end
  pub phrase : Phrase (Membered limit class (plain_member m)) Any own_text

printed_block : (b : Block) → unplaced_block (map_block expr_with_parens b) ≡ plain_block b
printed_block b = block_alike Unplacing expr_with_parens places.stmt_node_step plain_step (λ y. refl) b

-- # Fields

field_tree : (limit : ℕ) (class : List ℕ) (f : Field) → FieldWords f.words → in_order f.words ≡ f.words → (ts : List Token)
    → Then (Comments f.front) (Then (Words f.words) (Then (WholeType limit f.ty) (Then (Declares limit (record { name = f.name; init = f.init })) (Alone (IsSymbol ";"))))) ts
    → Membered limit class (plain_member (member.Field f)) ts
field_tree limit class f allowed ordered _ (both _ _ c (both us _ w (both vs _ t (both _ _ d (alone s semi))))) = record {
  height = d.height;
  tree = field_of f.front (start_of (us ++ vs)) (in_order f.words) f.ty d.tree.1;
  derived = members.field c w allowed t (statements.last d.derived) semi;
  same = (let e = d.same in
      ap (λ words. member.Field (record { front = f.front; at = 0; words = words; ty = f.ty; name = (places.unplaced_declarator d.tree.1).name; init = (places.unplaced_declarator d.tree.1).init })) ordered
      ∙ ap (λ (x : Declarator). member.Field (record { front = f.front; at = 0; words = f.words; ty = f.ty; name = x.name; init = x.init })) e);
}

regroup_field : (c i w t v : List ℕ) → c ++ (i ++ (w ++ (t ++ (32 ∷ (v ++ codes ";"))))) ≡ c ++ i ++ w ++ t ++ codes " " ++ v ++ codes ";"
regroup_field c i w t v = let e : c ++ (i ++ (w ++ (t ++ (codes " " ++ (v ++ codes ";"))))) ≡ c ++ i ++ w ++ t ++ codes " " ++ v ++ codes ";" = simp append_assoc refl in e

field_phrase : (limit : ℕ) (class : List ℕ) (f : Field) → member_width (member.Field f) ≤ limit → IsPrintableField f → MemberPhrase limit class (member.Field f)
field_phrase limit class f few is = record {
  own_text = comment_lines 1 f.front ++ indent 1 ++ words_text f.words ++ type_text f.ty ++ codes " " ++ valued_text f.name f.init ++ codes ";";
  lines_are = refl;
  phrase = makes (next_to (comments 1 f.front is.comments) (indented 1 (ordered_words f.words is.ordered (field_line_words f.words is.allowed.known)
      (then (whole limit f.ty (omega arith) is.typed) (space (then (variable limit f.name f.init (omega arith) is.named is.first_value) semicolon (λ b ok. refl))) (λ b ok. space_breaks)))))
      (regroup_field (comment_lines 1 f.front) (indent 1) (words_text f.words) (type_text f.ty) (valued_text f.name f.init)) (field_tree limit class f is.allowed is.ordered);
}

-- # Methods

-- a method without its place
abbrev made_of : Method → List (List ℕ) → Bool → List ℕ → Option Block → Member
made_of m words is_static text block = member.Method (record { front = m.front; at = 0; words = words; is_static = is_static; result = m.result; name = text; params = m.params; block = block })

method_tree : (limit : ℕ) (class : List ℕ) (m : Method) (b : Block) (list : List (List ℕ)) → MethodWords list → kept_of_method list ≡ m.words → has list "static" ≡ m.is_static → (ts : List Token)
    → Then (Comments m.front) (Then (Words list) (Then (Result limit m.result) (Then (OneOf kind.Word m.name) (Then (Parameters limit m.params) (Blocked limit (plain_block b)))))) ts
    → Membered limit class (plain_member (member.Method (record m { block = Some b }))) ts
method_tree limit class m b list allowed kept static ts d = by m.name ts d where
  by : (text : List ℕ) (ts : List Token) → Then (Comments m.front) (Then (Words list) (Then (Result limit m.result) (Then (OneOf kind.Word text) (Then (Parameters limit m.params) (Blocked limit (plain_block b)))))) ts
      → Membered limit class (plain_member (member.Method (record m { name = text; block = Some b }))) ts
  by _ _ (both cs _ c (both us _ w (both vs _ r (both _ _ (one_of n word) (both ws xs ps f))))) = record {
    height = f.height;
    tree = member.Method (record { front = m.front; at = start_of (us ++ vs); words = kept_of_method list; is_static = has list "static"; result = m.result; name = n.text; params = m.params; block = Some (block_of f.tree.0 f.tree.1) });
    derived = (let made : Declared limit (Some class) f.height (member.Method (record { front = m.front; at = start_of (us ++ vs); words = kept_of_method list; is_static = has list "static"; result = m.result; name = n.text; params = m.params; block = Some (block_of (fronted [] f.tree.0) (tailed [] f.tree.0 f.tree.1)) }) ∷ [])
        (cs ++ (us ++ (vs ++ (n ∷ ws ++ ([] ++ xs))))) = members.method c w allowed r (record { word = word }) ps tokens.none f.derived in
        rw (fronted-none f.tree.0, tailed-none f.tree.0 f.tree.1) at made);
    same = (let z : unplaced_block (block_of f.tree.0 f.tree.1) ≡ unplaced_block (map_block expr_with_parens b) = f.same ∙ sym (printed_block b) in
        ap (λ words. made_of m words (has list "static") n.text (Some (unplaced_block (block_of f.tree.0 f.tree.1)))) kept ∙ ap (λ s. made_of m m.words s n.text (Some (unplaced_block (block_of f.tree.0 f.tree.1)))) static
        ∙ ap (λ x. made_of m m.words m.is_static n.text (Some x)) z);
  }

abstract_tree : (limit : ℕ) (class : List ℕ) (m : Method) (list : List (List ℕ)) → AbstractWords list → kept_of_method list ≡ m.words → m.is_static ≡ false → (ts : List Token)
    → Then (Comments m.front) (Then (Words list) (Then (Result limit m.result) (Then (OneOf kind.Word m.name) (Then (Parameters limit m.params) (Alone (IsSymbol ";")))))) ts
    → Membered limit class (plain_member (member.Method (record m { block = None }))) ts
abstract_tree limit class m list allowed kept static ts d = by m.name ts d where
  by : (text : List ℕ) (ts : List Token) → Then (Comments m.front) (Then (Words list) (Then (Result limit m.result) (Then (OneOf kind.Word text) (Then (Parameters limit m.params) (Alone (IsSymbol ";")))))) ts
      → Membered limit class (plain_member (member.Method (record m { name = text; block = None }))) ts
  by _ _ (both _ _ c (both us _ w (both vs _ r (both _ _ (one_of n word) (both _ _ ps (alone s semi)))))) = record {
    height = 0;
    tree = member.Method (record { front = m.front; at = start_of (us ++ vs); words = kept_of_method list; is_static = false; result = m.result; name = n.text; params = m.params; block = None });
    derived = members.abstract_method c w allowed r (record { word = word }) ps semi;
    same = ap (λ words. made_of m words false n.text None) kept ∙ ap (λ s. made_of m m.words s n.text None) (sym static);
  }

regroup_method : (c o i w r n p b : List ℕ) → c ++ (o ++ (i ++ (w ++ (r ++ (32 ∷ (n ++ (p ++ b))))))) ≡ c ++ o ++ i ++ w ++ r ++ codes " " ++ n ++ p ++ b
regroup_method c o i w r n p b = let e : c ++ (o ++ (i ++ (w ++ (r ++ (codes " " ++ (n ++ (p ++ b))))))) ≡ c ++ o ++ i ++ w ++ r ++ codes " " ++ n ++ p ++ b = simp append_assoc refl in e

method_phrase : (limit : ℕ) (class : List ℕ) (m : Method) (x : Option Block) → member_width (member.Method (record m { block = x })) ≤ limit → IsPrintableMethod (record m { block = x }) → MemberPhrase limit class (member.Method (record m { block = x }))
method_phrase limit class m (Some b) few is =
    let whole_words = method_words (record m { block = Some b }) in
    let count = length-map m.params param_width in
    record {
      own_text = comment_lines 1 m.front ++ override_line m.words ++ indent 1 ++ words_text whole_words ++ type_text m.result ++ codes " " ++ m.name ++ params_text m.params ++ (codes " " ++ block_text b 1);
      lines_are = refl;
      phrase = makes (next_to (comments 1 m.front is.comments) (method_words_phrase whole_words m.words (overrides m.is_static)
          (then ((type_phrases m.result).result limit (omega arith) is.typed) (space (then (name m.name is.named) (next_to (parameters limit m.params (omega arith) (omega arith) is.params) (space ((block_phrases limit b (omega arith)).block is.body 1))) (λ n ok. open_breaks))) (λ n ok. space_breaks))))
          (regroup_method (comment_lines 1 m.front) (override_line m.words) (indent 1) (words_text whole_words) (type_text m.result) m.name (params_text m.params) (codes " " ++ block_text b 1))
          (method_tree limit class m b (in_order whole_words) (method_words-in_order whole_words is.allowed) (kept-in_order whole_words ∙ is.ordered) (stands-in_order whole_words (codes "static") refl ∙ static m.is_static refl));
    }
  where
    overrides : (s : Bool) → has m.words "@Override" ≡ stands_in (method_words (record m { is_static = s; block = Some b })) (codes "@Override")
    overrides true = refl
    overrides false = refl

    static : (s : Bool) → m.is_static ≡ s → stands_in (method_words (record m { is_static = s; block = Some b })) (codes "static") ≡ s
    static true e = refl
    static false e = let kept = is.ordered in subst (λ ws. stands_in ws (codes "static") ≡ false) kept (kept_no_static (method_words (record m { block = Some b })))
method_phrase limit class m None few is =
    let whole_words = method_words (record m { block = None }) in
    let count = length-map m.params param_width in
    record {
      own_text = comment_lines 1 m.front ++ override_line m.words ++ indent 1 ++ words_text whole_words ++ type_text m.result ++ codes " " ++ m.name ++ params_text m.params ++ codes ";";
      lines_are = refl;
      phrase = makes (next_to (comments 1 m.front is.comments) (method_words_phrase whole_words m.words (overrides m.is_static)
          (then ((type_phrases m.result).result limit (omega arith) is.typed) (space (then (name m.name is.named) (next_to (parameters limit m.params (omega arith) (omega arith) is.params) semicolon) (λ n ok. open_breaks))) (λ n ok. space_breaks))))
          (regroup_method (comment_lines 1 m.front) (override_line m.words) (indent 1) (words_text whole_words) (type_text m.result) m.name (params_text m.params) (codes ";"))
          (abstract_tree limit class m (in_order whole_words) (abstract_words-in_order whole_words is.allowed.0, stands-in_order whole_words (codes "abstract") refl ∙ is.allowed.1) (kept-in_order whole_words ∙ is.ordered) (static m.is_static is.allowed.0.known));
    }
  where
    overrides : (s : Bool) → has m.words "@Override" ≡ stands_in (method_words (record m { is_static = s; block = None })) (codes "@Override")
    overrides true = refl
    overrides false = refl

    static : (s : Bool) → list_all (among abstract_words) (method_words (record m { is_static = s; block = None })) ≡ true → s ≡ false
    static true all = absurd (not_abstract_static (codes "abstract" ∷ m.words) all)
    static false all = refl

-- # Constructors

constructor_tree : (limit : ℕ) (class : List ℕ) (c : Ctor) → ConstructorWords c.words → in_order c.words ≡ c.words → (ts : List Token)
    → Then (Comments c.front) (Then (Words c.words) (Then (OneOf kind.Word class) (Then (Parameters limit c.params) (Bodied limit (plain_block c.block))))) ts
    → Membered limit class (plain_member (member.Ctor c)) ts
constructor_tree limit _ c allowed ordered _ (both cs _ n (both us _ w (both _ _ (one_of t word) (both vs xs ps f)))) = record {
  height = f.height;
  tree = member.Ctor (record { front = c.front; at = start_of (us ++ t ∷ []); words = in_order c.words; params = c.params; block = block_of f.tree.0 f.tree.1 });
  derived = (let made : Declared limit (Some t.text) f.height (member.Ctor (record { front = c.front; at = start_of (us ++ t ∷ []); words = in_order c.words; params = c.params; block = block_of (fronted [] f.tree.0) (tailed [] f.tree.0 f.tree.1) }) ∷ [])
      (cs ++ (us ++ (t ∷ vs ++ ([] ++ xs)))) = members.constructor_of n w allowed (record { word = word }) refl ps tokens.none f.derived in
      rw (fronted-none f.tree.0, tailed-none f.tree.0 f.tree.1) at made);
  same = (let z : unplaced_block (block_of f.tree.0 f.tree.1) ≡ unplaced_block (map_block expr_with_parens c.block) = f.same ∙ sym (printed_block c.block) in
      ap (λ words. member.Ctor (record { front = c.front; at = 0; words = words; params = c.params; block = unplaced_block (block_of f.tree.0 f.tree.1) })) ordered
      ∙ ap (λ b. member.Ctor (record { front = c.front; at = 0; words = c.words; params = c.params; block = b })) z);
}

regroup_constructor : (c i w n p b : List ℕ) → c ++ (i ++ (w ++ (n ++ (p ++ (32 ∷ b))))) ≡ c ++ i ++ w ++ n ++ p ++ codes " " ++ b
regroup_constructor c i w n p b = let e : c ++ (i ++ (w ++ (n ++ (p ++ (codes " " ++ b))))) ≡ c ++ i ++ w ++ n ++ p ++ codes " " ++ b = simp append_assoc refl in e

constructor_phrase : (limit : ℕ) (class : List ℕ) (c : Ctor) → is_name class ≡ true → member_width (member.Ctor c) ≤ limit → IsPrintableConstructor c → MemberPhrase limit class (member.Ctor c)
constructor_phrase limit class c named few is =
    let count = length-map c.params param_width in
    record {
      own_text = comment_lines 1 c.front ++ indent 1 ++ words_text c.words ++ class ++ params_text c.params ++ codes " " ++ block_text c.block 1;
      lines_are = refl;
      phrase = makes (next_to (comments 1 c.front is.comments) (indented 1 (ordered_words c.words is.ordered (constructor_line_words c.words is.allowed.known)
          (then (name class named) (next_to (parameters limit c.params (omega arith) (omega arith) is.params) (space ((block_phrases limit c.block (omega arith)).body is.body 1))) (λ n ok. open_breaks)))))
          (regroup_constructor (comment_lines 1 c.front) (indent 1) (words_text c.words) class (params_text c.params) (block_text c.block 1)) (constructor_tree limit class c is.allowed is.ordered);
    }

pub member_phrase : (limit : ℕ) (class : List ℕ) (m : Member) → is_name class ≡ true → member_width m ≤ limit → IsPrintableMember m → MemberPhrase limit class m
member_phrase limit class (member.Field f) named few is = field_phrase limit class f few is
member_phrase limit class (member.Method m) named few is = method_phrase limit class m m.block few is
member_phrase limit class (member.Ctor c) named few is = constructor_phrase limit class c named few is
