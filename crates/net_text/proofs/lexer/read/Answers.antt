use Rattle.std.proofs.Common.{◌≡◌, ◌++◌, ◌∷◌, [], arith}
use Rattle.std.proofs.lemmas.List.{map_push}
use Rattle.net_text.specs.Tokens.{lexeme_of, lexemes}
use Rattle.net_text.proofs.Readings.{tokens_push, token_step}
use Rattle.net_text.proofs.lexer.read.Goals as goal

pub tokens-smaller : goal.tokens-smaller
tokens-smaller c =
    let step =
    token_step c.args.source.now c.tokens.place (lexeme_of c.in-Ok.token) c.tokens.invariant.within
    c.in-Ok.ensures.ok in
    omega (arith, step.nearer, step.within)

pub tokens-preserved : goal.tokens-preserved
tokens-preserved c =
    let t = lexeme_of c.in-Ok.token in
    let step = token_step c.args.source.now c.tokens.place t c.tokens.invariant.within c.in-Ok.ensures.ok in
    let pushed : lexemes c.push.new.self.items ≡ lexemes c.tokens.tokens.items ++ t ∷ [] =
    rw c.in_ok-push-in-Ok.ensures.items (map_push _ c.tokens.tokens.items c.in-Ok.token) in
    record {
      within = step.within;
      line_is = step.line_is;
      read = rw pushed
          (tokens_push c.args.source.now 0 (lexemes c.tokens.tokens.items) c.tokens.place t c.tokens.invariant.read
          c.in-Ok.ensures.ok);
    }
