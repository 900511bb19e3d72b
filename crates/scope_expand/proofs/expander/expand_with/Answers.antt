use Rattle.std.proofs.Common.{◌∙◌, ◌++◌, ◌∷◌, [], List, ap, refl, sym, reverse}
use Rattle.scope_expand.specs.private.Frames.{caller_scopes}
use Rattle.scope_types.specs.declared.scope.Scope.{Scope}
use Rattle.scope_types.specs.declared.scope.Scope.TheVariants.{Root}
use Rattle.scope_types.specs.Expansion.{root_of}
use Rattle.scope_expand.proofs.CallPaths.{whole_path, joined}
use Rattle.scope_expand.proofs.expander.expand_with.Goals as goal

pub returns-clause-path : goal.returns-clause-path
returns-clause-path c =
    c.of.ensures
    ∙ whole_path c.args.finder.now c.args.raw.now c.root_of.result c.frames.result.now (Root c.root_of.result ∷ []) _ _ c.in-len1-up.len_at_least c.frames.ensures.frames
    (c.root_of.ensures ∙ ap root_of c.end.ensures) refl
    (joined (Root c.root_of.result ∷ []) c.scopes-shared.result.now _ _ _ _
    (c.in_ok-extend_from_slice.ensures.items ∙ ap (λ (l : List Scope). l ++ c.scopes-shared.result.now)
    (c.in_ok-push.ensures.items ∙ ap (λ (l : List Scope). l ++ Root c.root_of.result ∷ []) (c.in_ok-reserve.ensures.items ∙ c.clear.ensures.items)))
    c.in_ok-put_callers.ensures.scopes
    (c.share-others.ensures.scopes c.args.finder.now c.requires.callers
    ∙ ap (λ (l : List Scope). l ++ caller_scopes c.args.finder.now (reverse c.share-others.result.now)) (sym c.scopes-shared.ensures)))
    _ c.in_ok-put_frame.ensures.scopes
