-- What is read again is what was printed.
use Rattle.std.proofs.Common.{arith, inl, inr, ◌≡◌}
use Rattle.jav_lex.specs.Token.{all_seen}
use Rattle.jav_parse_unit.specs.BadToken.{most_height, most_items}
use Rattle.jav_tree.specs.Trees.{IsUnit}
use Rattle.jav_source.specs.declared.again.Unread.TheVariants as unread
use Rattle.jav_source.proofs.again.read_again.Goals as goal

pub returns-in-Err-lex : goal.returns-in-Err-lex
returns-in-Err-lex c = record {
  same = λ p w. tt;
  dropped = λ p w. tt;
  read = λ p w e.
      let b = c.in-Ok.ensures.back most_items most_height (omega arith) p w in
      let refused : c.of_lex.result ≡ unread.Refused = cc in
      c.in-Err-lex.ensures.none (c.of_lex.ensures refused) b.tokens (rw c.items-2.ensures b.source);
}

pub returns-in-Ok-parse-clause-same : goal.returns-in-Ok-parse-clause-same
returns-in-Ok-parse-clause-same c = λ p w.
    let b = c.in-Ok.ensures.back most_items most_height (omega arith) p w in
    let tokens : b.tokens ≡ all_seen c.in-Ok-lex.tokens = c.in-Ok-lex.ensures.only b.tokens (rw c.items-2.ensures b.source) in
    let parsed : IsUnit most_items most_height b.tree (all_seen c.in-Ok-lex.tokens) = rw tokens at b.parsed in
    let is = c.in-Ok-parse.is in
    elim (c.parse.ensures.only b.tree (rw c.items-3.ensures parsed)) [
      | inl read ↦ (let e : c.in-Ok-parse.u ≡ b.tree = cc in rw e b.as_printed)
      | inr wants ↦ absurd cc
    ]

pub returns-in-Ok-parse-clause-dropped : goal.returns-in-Ok-parse-clause-dropped
returns-in-Ok-parse-clause-dropped c = λ p w.
    let b = c.in-Ok.ensures.back most_items most_height (omega arith) p w in
    let tokens : b.tokens ≡ all_seen c.in-Ok-lex.tokens = c.in-Ok-lex.ensures.only b.tokens (rw c.items-2.ensures b.source) in
    let parsed : IsUnit most_items most_height b.tree (all_seen c.in-Ok-lex.tokens) = rw tokens at b.parsed in
    let is = c.in-Ok-parse.is in
    elim (c.parse.ensures.only b.tree (rw c.items-3.ensures parsed)) [
      | inl read ↦ (let e : c.in-Ok-parse.u ≡ b.tree = cc in rw e b.dropped)
      | inr wants ↦ absurd cc
    ]

pub returns : goal.returns
returns c = record {
  same = λ p w. tt;
  dropped = λ p w. tt;
  read = λ p w e.
      let b = c.in-Ok.ensures.back most_items most_height (omega arith) p w in
      let tokens : b.tokens ≡ all_seen c.in-Ok-lex.tokens = c.in-Ok-lex.ensures.only b.tokens (rw c.items-2.ensures b.source) in
      let parsed : IsUnit most_items most_height b.tree (all_seen c.in-Ok-lex.tokens) = rw tokens at b.parsed in
      let is = c.in-Err-parse.is in
      let refused : c.of_parse.result ≡ unread.Refused = cc in
      elim (c.parse.ensures.only b.tree (rw c.items-3.ensures parsed)) [
        | inl read ↦ absurd cc
        | inr wants ↦ c.of_parse.ensures refused (let e : c.in-Err-parse.fault ≡ _ = cc in e)
      ];
}
