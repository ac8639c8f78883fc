-- Names that are too long, as the scan finds them.
use Rattle.std.proofs.Common.{◌≡◌, ℕ, ◌<◌, ◌≤◌, true, false, List, [], ◌∷◌, ◌++◌, take, drop, length, refl, sym, ◌∙◌, ap, arith, append_assoc, length-append}
use Rattle.std.specs.Prelude.{All, IsTrue, nat_lt}
use Rattle.std.specs.Option.{option_map_or}
use lib.Utf8.{encode, encodes, scalar, scalars}
use Rattle.std.proofs.Math.Seq.{drop-append_seam}
use Rattle.std.proofs.lemmas.Bool.{and_parts, lt-ltb}
use Rattle.std.proofs.lemmas.List.{length-take-le, take-append-drop}
use Rattle.std.proofs.lemmas.List.Elements.{All-cons, All-head, All-tail}
use Rattle.std.proofs.lemmas.Str.{scalars-chars, encodes-chars}
use Rattle.mol_base.specs.Lexical.Characters.{first, width}
use Rattle.mol_base.specs.Lexical.Names.{is_start, is_part, starts_name, name_len, name}
use Rattle.mol_base.specs.Lexical.Flaws.{IsLongName}
use Rattle.mol_base.specs.Lexical.Front.{front}
use Rattle.mol_base.specs.declared.lexical.front.Front.TheVariants.{Wrong}
use Rattle.mol_base.specs.declared.lexical.front.Flaw.TheVariants.{NameTooLong}
use Rattle.mol_base.proofs.Encoded.{width-encode}
use Rattle.mol_base.proofs.Ends.{starts-goes_on, name_len-text}
use Rattle.mol_base.proofs.Fronts.{front-name}
use Rattle.mol_base.proofs.Longest.{first_char-take, name_len-take}
use Rattle.mol_base.proofs.Naming.{name_len-goes_on}
use Rattle.mol_base.proofs.Words.{goes_on-encode, is_part-start, starts_name-encode, IsName-starts}

-- a run of characters at the front is taken, and maybe more
name_len-more : (cs : List ℕ) (after : List ℕ) → scalars cs ≡ true → All (λ c. IsTrue (is_part c)) cs → length (encodes cs) ≤ name_len 0 (encodes cs ++ after)
name_len-more [] after are all = omega arith
name_len-more (c ∷ cs) after are all =
    let both = and_parts (scalar c) (scalars cs) are in
    let tail : List ℕ = encodes cs ++ after in
    let r : List ℕ = encode c ++ tail in
    let step = name_len-goes_on r (goes_on-encode c tail both.0 (All-head (λ x. IsTrue (is_part x)) c cs all)) in
    let wide : width (first r) ≡ length (encode c) = width-encode c tail both.0 in
    let rest : drop (width (first r)) r ≡ tail = ap (λ (n : ℕ). drop n r) wide ∙ drop-append_seam (encode c) tail in
    let further : length (encodes cs) ≤ name_len 0 tail = name_len-more cs after both.1 (All-tail (λ x. IsTrue (is_part x)) c cs all) in
    let same : name_len 0 (drop (width (first r)) r) ≡ name_len 0 tail = ap (λ (xs : List ℕ). name_len 0 xs) rest in
    let joined : name_len 0 (encodes (c ∷ cs) ++ after) ≡ name_len 0 r = ap (λ (xs : List ℕ). name_len 0 xs) (append_assoc (encode c) (encodes cs) after) in
    omega (arith, length-append (encode c) (encodes cs))

name-long : (r : List ℕ) → 255 < name_len 0 r → name r ≡ Wrong NameTooLong 0
unfolding name
name-long r long = let test : nat_lt 255 (name_len 0 r) ≡ true = lt-ltb 255 (name_len 0 r) long in rw test refl

pub front-long_name : (r : List ℕ) → IsLongName r → front r ≡ Wrong NameTooLong 0
front-long_name r is =
    let of : List ℕ = is.is_name.first ∷ is.is_name.others in
    let are : scalars of ≡ true = ap scalars (sym is.is_name.characters) ∙ scalars-chars is.name is.is_name.utf8 in
    let both = and_parts (scalar is.is_name.first) (scalars is.is_name.others) are in
    let spelled : encodes of ≡ is.name = ap encodes (sym is.is_name.characters) ∙ encodes-chars is.name is.is_name.utf8 in
    let whole : r ≡ encodes of ++ is.after = is.spelled ∙ ap (λ (xs : List ℕ). xs ++ is.after) (sym spelled) in
    let split : r ≡ encode is.is_name.first ++ (encodes is.is_name.others ++ is.after) = whole ∙ append_assoc (encode is.is_name.first) (encodes is.is_name.others) is.after in
    let starts : starts_name r ≡ true = ap starts_name split ∙ starts_name-encode is.is_name.first (encodes is.is_name.others ++ is.after) both.0 is.is_name.starts in
    let more = name_len-more of is.after are (All-cons (λ x. IsTrue (is_part x)) is.is_name.first is.is_name.others (is_part-start is.is_name.first is.is_name.starts) is.is_name.goes_on) in
    let same : name_len 0 r ≡ name_len 0 (encodes of ++ is.after) = ap (λ (xs : List ℕ). name_len 0 xs) whole in
    let len : length (encodes of) ≡ length is.name = ap (λ (xs : List ℕ). length xs) spelled in
    front-name r starts ∙ name-long r (omega (arith, is.long))

pub starts-taken : (r : List ℕ) (n : ℕ) → 0 < n → n ≤ length r → width (first r) ≤ n → starts_name r ≡ true → starts_name (take n r) ≡ true
unfolding starts_name
starts-taken r n some room whole starts = ap (λ o. option_map_or is_start o false) (first_char-take r n some room whole) ∙ starts

pub IsLongName-name : (r : List ℕ) → starts_name r ≡ true → 255 < name_len 0 r → IsLongName r
IsLongName-name r starts long =
    let n : ℕ = name_len 0 r in
    let room : n ≤ length r = (name_len-text (length r) r (omega arith)).0 in
    let step = name_len-goes_on r (starts-goes_on r starts) in
    let len : length (take n r) ≡ n = length-take-le n r room in
    let same : name_len 0 (take n r) ≡ n = name_len-take (length r) r n (omega arith) room (omega arith) in
    let starts' = starts-taken r n (omega arith) room (omega arith) starts in
    record {
      name = take n r;
      after = drop n r;
      spelled = sym (take-append-drop n r);
      is_name = IsName-starts (take n r) starts' (omega arith);
      long = omega arith;
    }
