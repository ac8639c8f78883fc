-- Source files that are read. The imports are in the order of the source.
use Rattle.std.proofs.Common.{◌≡◌, ℕ, zero, suc, max, ◌<◌, ◌≤◌, List, [], ◌∷◌, ◌++◌, Option, Some, None, refl, sym, ap, ◌∙◌, subst, append_assoc, arith}
use Rattle.std.proofs.lemmas.List.{append-nil}
use Rattle.mol_base.specs.Token.{Token}
use Rattle.jav_tree.specs.declared.types.TypeName.{TypeName}
use Rattle.jav_tree.specs.declared.unit.ClassDecl.{ClassDecl}
use Rattle.jav_tree.specs.declared.unit.Member.{Member}
use Rattle.jav_tree.specs.declared.unit.Unit.{Unit as Source}
use Rattle.jav_tree.specs.Tokens.{IsSymbol, IsKeyword, IsName, Comments}
use Rattle.jav_tree.specs.Tokens as spelled
use Rattle.jav_tree.specs.Members as tree
use Rattle.jav_tree.specs.Members.{Declared, Body}
use Rattle.jav_tree.specs.Units as units
use Rattle.jav_tree.specs.Units.{Named, Imports, Parent, AscendingOf, SourceFile}
use Rattle.jav_parse_cursor.specs.declared.limits.Limits.{Limits}
use Rattle.jav_parse_cursor.specs.declared.sort.Sort.TheVariants as sort
use Rattle.jav_parse_unit.specs.declared.unit.ImportList.{ImportList}
use Rattle.jav_parse_unit.specs.declared.unit.MemberList.{MemberList}
use Rattle.jav_parse_unit.specs.declared.words.Words.{Words as Modifiers}
use Rattle.jav_parse_cursor.specs.Nodes.{text_of}
use Rattle.jav_parse_unit.specs.UnitRules as rules
use Rattle.jav_parse_unit.specs.WordRules as words
use Rattle.jav_parse.proofs.ExpressionLaws.{ExpressionLaws}
use Rattle.jav_parse.proofs.Meets.{Reads, reads_pure, reads_refuse, reads_map, reads_any, reads_bind, reads_made, reads_token, reads_when}
use Rattle.jav_parse.proofs.ModifierFits.{class_fits}
use Rattle.jav_parse.proofs.Modifiers.{texts_in_order}
use Rattle.jav_parse.proofs.SoundComments.{Noted, comments_after, comments_here}
use Rattle.jav_parse.proofs.SoundMembers.{AreDeclared, reads_declared}
use Rattle.jav_parse.proofs.SoundTypes.{qualified_is, reads_qualified}
use Rattle.jav_parse.proofs.SoundWords.{AreModifiers, no_modifiers, reads_words}
use Rattle.jav_parse.proofs.TokenSorts as token
use Rattle.jav_parse.proofs.TokenSteps.{expect_begin, expect_class, expect_name, expect_package, expect_semi, symbol, a_symbol}
use Rattle.jav_parse.proofs.Within.{IsBuilding}

reads_path : (n : ℕ) → Reads Named (rules.named n)
unfolding rules.named
reads_path n = reads_bind (reads_qualified n) (λ names us h. expect_semi (λ semi hs. reads_pure (text_of names) (rw (h.0) (units.named (qualified_is us h.1) hs))))

-- ---- imports

one_import : {names others own : List (List ℕ)} {ts us vs : List Token} {word : Token} {q : List ℕ} → Imports names others ts → IsKeyword "import" word → Named q us → Comments own vs
    → Imports (names ++ q ∷ []) (others ++ own) (ts ++ (word ∷ us ++ vs))
one_import {names} {others} {own} {ts} {us} {vs} {word} {q} units.none w n c = rw (sym (append-nil own), sym (append-nil vs)) (units.import w n c units.none)
one_import {names} {others} {own} {ts} {us} {vs} {word} {q} (units.import {word = w0} {comments = c0} {more = m0} {ts = ps} {us = qs} {vs = rs} h0 n0 k0 rest) w n c =
    let e : (ps ++ (qs ++ rs)) ++ (word ∷ us ++ vs) ≡ ps ++ (qs ++ (rs ++ (word ∷ us ++ vs))) =
    append_assoc ps (qs ++ rs) (word ∷ us ++ vs) ∙ ap (λ r. ps ++ r) (append_assoc qs rs (word ∷ us ++ vs)) in
    rw (append_assoc c0 m0 own, e) (units.import h0 n0 k0 (one_import rest w n c))

-- The imports, and the comments from `package` on.
record AreImports (all : ImportList) (ts : List Token) : Type 0 where
  first : List (List ℕ)
  others : List (List ℕ)
  front : List Token
  back : List Token
  tokens : ts ≡ front ++ back
  notes : all.notes ≡ first ++ others
  early : Comments first front
  are : Imports all.names others back

module _ (l : Limits) where
  next_import : (all : ImportList) (ts : List Token) → AreImports all ts → (word : Token) → IsKeyword "import" word → (q : List ℕ) (us : List Token) → Named q us → (new : List (List ℕ)) (vs : List Token)
      → Noted all.notes new vs → AreImports (record { names = all.names ++ q ∷ []; notes = new }) (ts ++ (word ∷ us ++ vs))
  next_import all ts k word hw q us hq new vs c = record {
    first = k.first;
    others = k.others ++ c.own;
    front = k.front;
    back = k.back ++ (word ∷ us ++ vs);
    tokens = ap (λ r. r ++ (word ∷ us ++ vs)) k.tokens ∙ append_assoc k.front k.back (word ∷ us ++ vs);
    notes = c.all ∙ ap (λ r. r ++ c.own) k.notes ∙ append_assoc k.first k.others c.own;
    early = k.early;
    are = one_import k.are hw hq c.are;
  }

  reads_further : (n : ℕ) (all : ImportList) (ts : List Token) → AreImports all ts → Reads (λ y vs. AreImports y (ts ++ vs)) (rules.further_imports l n all)
  unfolding rules.further_imports
  reads_further zero all ts k = reads_refuse (all, [], rw append-nil k)
  reads_further (suc n) all ts k = reads_when sort.Import
      (reads_token (λ z. cc) (λ word hw. reads_bind (reads_path l.turns) (λ q us hq. reads_bind (comments_after l.turns all.notes)
      (λ new vs c. reads_map (reads_further n (record { names = all.names ++ q ∷ []; notes = new }) (ts ++ (word ∷ us ++ vs)) (next_import all ts k word (token.import_is word hw) q us hq new vs c))
      (λ y ws h. subst (AreImports y) (append_assoc ts (word ∷ us ++ vs) ws ∙ ap (λ r. ts ++ word ∷ r) (append_assoc us vs ws)) h)))))
      (reads_pure all (rw append-nil k))

  reads_imports : Reads AreImports (rules.import_list l)
  unfolding rules.import_list
  reads_imports = reads_bind (comments_here l.turns) (λ notes us c. reads_further l.turns (record { names = []; notes = notes }) us
      (record { first = notes; others = []; front = us; back = []; tokens = sym (append-nil us); notes = sym (append-nil notes); early = c; are = units.none }))

  reads_parent : Reads Parent (rules.parent l.turns)
  unfolding rules.parent
  reads_parent = reads_when sort.Extends
      (reads_token (λ z. cc) (λ word hw. reads_made _ (reads_qualified l.turns) (λ names us h. rw (h.0) (units.extends (token.extends_is word hw) (qualified_is us h.1)))))
      (reads_pure None units.none)

-- ---- members of a class

-- one declaration more at the end
more_members : {limit : ℕ} {class : Option (List ℕ)} {h k : ℕ} {ms ns : List Member} {ts us : List Token} → Body limit class h ms ts → Declared limit class k ns us
    → Body limit class (max h k) (ms ++ ns) (ts ++ us)
more_members {limit} {class} {h} {k} {ms} {ns} {ts} {us} tree.none d =
    let same : max 0 k ≡ max k 0 = omega arith in
    rw (same, sym (append-nil ns), sym (append-nil us)) (tree.more d tree.none)
more_members {limit} {class} {h} {k} {ms} {ns} {ts} {us} (tree.more {h = a} {k = b} {ms = ps} {ns = qs} {ts = xs} {us = ys} d0 rest) d =
    let same : max (max a b) k ≡ max a (max b k) = omega arith in
    rw (same, append_assoc ps qs ns, append_assoc xs ys us) (tree.more d0 (more_members rest d))

-- the members of a class, the comments after them and its last brace
pub record AreMembers (limit top : ℕ) (class : Option (List ℕ)) (y : MemberList) (ts : List Token) : Type 0 where
  height : ℕ
  front : List Token
  back : List Token
  right : Token
  tokens : ts ≡ front ++ (back ++ right ∷ [])
  are : Body limit class height y.items front
  tail : Comments y.tail back
  closes : IsSymbol "}" right
  low : height ≤ top

module _ (l : Limits) (good : IsBuilding l) (laws : ExpressionLaws l) (top : ℕ) (p : 0 < top) where
  abbrev IsBody : Option (List ℕ) → List Member → List Token → Type 0
  IsBody class all ts = (h : ℕ) × (h ≤ top) × Body l.most class h all ts

  closed : (class : Option (List ℕ)) (all : List Member) (ts : List Token) → IsBody class all ts → (notes : List (List ℕ)) (us : List Token) → Comments notes us → (right : Token) → IsSymbol "}" right
      → AreMembers l.most top class (record { items = all; tail = notes }) (ts ++ (us ++ right ∷ []))
  closed class all ts h notes us c right hr = record { height = h.0; front = ts; back = us; right = right; tokens = refl; are = h.2; tail = c; closes = hr; low = h.1 }

  one_member : (class : Option (List ℕ)) (all : List Member) (ts : List Token) → IsBody class all ts → (ms : List Member) (us : List Token) → AreDeclared l good laws top p class ms us
      → IsBody class (all ++ ms) (ts ++ us)
  one_member class all ts h ms us k = let a = h.1 in let b = k.low in (max h.0 k.height, omega arith, more_members h.2 k.are)

  reads_members : (class : Option (List ℕ)) (n : ℕ) (all : List Member) (ts : List Token) → IsBody class all ts → Reads (λ y vs. AreMembers l.most top class y (ts ++ vs)) (rules.members l top class n all)
  unfolding rules.members
  reads_members class zero all ts h = reads_refuse (record { items = all; tail = [] }, symbol "}" ∷ [], closed class all ts h [] [] spelled.none (symbol "}") (a_symbol "}"))
  reads_members class (suc n) all ts h = reads_bind (comments_here l.turns) (λ notes us c. reads_when sort.Finish
      (reads_token (λ z. cc) (λ right hr. reads_pure (record { items = all; tail = notes }) (closed class all ts h notes us c right (token.finish_is right hr))))
      (reads_any (reads_bind {R = λ ms vs. AreDeclared l good laws top p class ms (us ++ vs)} (reads_declared l good laws top p class notes us c)
      (λ ms vs k. reads_map (reads_members class n (all ++ ms) (ts ++ (us ++ vs)) (one_member class all ts h ms (us ++ vs) k))
      (λ y ws q. subst (AreMembers l.most top class y) (append_assoc ts (us ++ vs) ws ∙ ap (λ r. ts ++ r) (append_assoc us vs ws)) q)))))

  -- ---- classes

  -- a class from its first brace on, and the comments after it
  record IsClassBody (class : List ℕ) (y : MemberList) (ts : List Token) : Type 0 where
    inner : MemberList
    left : Token
    members : List Token
    last : List (List ℕ)
    ends : List Token
    tokens : ts ≡ left ∷ members ++ ends
    opens : IsSymbol "{" left
    are : AreMembers l.most top (Some class) inner members
    after : Comments last ends
    is : y ≡ record { items = inner.items; tail = inner.tail ++ last }

  body_is : (class : List ℕ) (left : Token) → IsSymbol "{" left → (all : MemberList) (us : List Token) → AreMembers l.most top (Some class) all us → (tail : List (List ℕ)) (vs : List Token)
      → Noted all.tail tail vs → IsClassBody class (record { items = all.items; tail = tail }) (left ∷ us ++ vs)
  body_is class left hl all us h tail vs c = record { inner = all; left = left; members = us; last = c.own; ends = vs; tokens = refl; opens = hl; are = h; after = c.are; is = ap (λ r. record { items = all.items; tail = r }) c.all }

  reads_class_body : (name : Token) → Reads (IsClassBody name.text) (rules.class_body l top name)
  unfolding rules.class_body
  reads_class_body name = expect_begin (λ left hl. reads_bind (reads_members (Some name.text) l.turns [] [] (0, omega arith, tree.none))
      (λ all us h. reads_made _ (comments_after l.turns all.tail) (λ tail vs c. body_is name.text left hl all us h tail vs c)))

  -- a class after the comments before it
  record IsClass (front : List (List ℕ)) (y : ClassDecl) (ts : List Token) : Type 0 where
    w : Modifiers
    modifiers : List Token
    word : Token
    name : Token
    parent : Option TypeName
    back : List Token
    body : MemberList
    rest : List Token
    tokens : ts ≡ modifiers ++ (word ∷ name ∷ back ++ rest)
    are : AreModifiers words.fit_class w modifiers
    classes : IsKeyword "class" word
    is_name : IsName name
    parent_is : Parent parent back
    body_of : IsClassBody name.text body rest
    is : y ≡ rules.class_of front w name parent body

  reads_class : (front : List (List ℕ)) → Reads (IsClass front) (rules.class l top front)
  unfolding rules.class
  reads_class front = reads_bind (reads_words words.fit_class l.turns words.no_words [] (no_modifiers words.fit_class refl))
      (λ w us m. expect_class (λ word hw. expect_name (λ name hn. reads_bind (reads_parent l)
      (λ parent vs hp. reads_made (rules.class_of front w name parent) (reads_class_body name) (λ body zs hb. record {
        w = w;
        modifiers = us;
        word = word;
        name = name;
        parent = parent;
        back = vs;
        body = body;
        rest = zs;
        tokens = refl;
        are = m;
        classes = hw;
        is_name = hn;
        parent_is = hp;
        body_of = hb;
        is = refl;
      })))))

  -- ---- source files

  -- a source file once its imports are sorted
  pub record IsSource (y : Source) (ts : List Token) : Type 0 where
    pub height : ℕ
    pub low : height ≤ top
    pub is : (sorted : List (List ℕ)) → AscendingOf y.imports sorted → SourceFile l.most height (record y { imports = sorted }) ts

  class_tokens : (k : ClassDecl) → (x : List (List ℕ)) (zs : List Token) → (c : IsClass x k zs) → (b : IsClassBody c.name.text c.body c.rest) → (h : AreMembers l.most top (Some c.name.text) b.inner b.members)
      → zs ≡ c.modifiers ++ (c.word ∷ c.name ∷ c.back ++ (b.left ∷ h.front ++ (h.back ++ h.right ∷ b.ends)))
  class_tokens k x zs c b h =
      let a : b.members ++ b.ends ≡ h.front ++ (h.back ++ h.right ∷ b.ends) = ap (λ r. r ++ b.ends) h.tokens ∙ append_assoc h.front (h.back ++ h.right ∷ []) b.ends ∙ ap (λ r. h.front ++ r) (append_assoc h.back (h.right ∷ []) b.ends) in
      c.tokens ∙ ap (λ r. c.modifiers ++ (c.word ∷ c.name ∷ c.back ++ r)) (b.tokens ∙ ap (λ r. b.left ∷ r) a)

  source_is : (head : List (List ℕ)) (cs : List Token) → Comments head cs → (packaged : Token) → IsKeyword "package" packaged → (q : List ℕ) (ps : List Token) → Named q ps
      → (all : ImportList) (us : List Token) → AreImports all us → (decl : ClassDecl) (zs : List Token) → IsClass all.notes decl zs
      → IsSource (record { head = head; «package» = q; imports = all.names; class = decl }) (cs ++ (packaged ∷ ps ++ (us ++ zs)))
  source_is head cs hc packaged hp q ps hq all us hi decl zs c =
      let b = c.body_of in
      let h = b.are in
      record {
        height = h.height;
        low = h.low;
        is = λ sorted asc.
            let e : cs ++ (packaged ∷ ps ++ (us ++ zs)) ≡ cs ++ (packaged ∷ ps ++ (hi.front ++ (hi.back ++ (c.modifiers ++ (c.word ∷ c.name ∷ c.back ++ (b.left ∷ h.front ++ (h.back ++ h.right ∷ b.ends))))))) =
            ap (λ r. cs ++ (packaged ∷ ps ++ r)) (ap (λ r. r ++ zs) hi.tokens ∙ append_assoc hi.front hi.back zs ∙ ap (λ r. hi.front ++ (hi.back ++ r)) (class_tokens decl all.notes zs c b h)) in
            rw (e, c.is, b.is, hi.notes, texts_in_order c.w c.are.list c.are.marks)
            (units.source hc hp hq hi.early hi.are asc c.are.are (class_fits c.w c.are.list c.are.marks c.are.fits) c.classes c.is_name c.parent_is b.opens h.are h.tail h.closes b.after);
      }

  pub reads_unit : Reads IsSource (rules.unit l top)
  unfolding rules.unit
  reads_unit = reads_bind (comments_here l.turns) (λ head cs hc. expect_package (λ packaged hp. reads_bind (reads_path l.turns)
      (λ q ps hq. reads_bind (reads_imports l) (λ all us hi. reads_made _ (reads_class all.notes) (λ decl zs k. source_is head cs hc packaged hp q ps hq all us hi decl zs k)))))
