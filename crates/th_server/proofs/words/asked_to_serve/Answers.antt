use Rattle.std.proofs.Common.{◌≡◌, ◌∙◌, ℕ, List, Bor, ap, map, string_bytes, subst, sym}
use Rattle.th_program.specs.declared.modes.ModeFault.TheVariants.{Short}
use Rattle.th_program.specs.Words.{AreServe}
use Rattle.th_server.proofs.words.asked_to_serve.Goals as goal

pub returns-in-Err-Usage-clause-rightly : goal.returns-in-Err-Usage-clause-rightly
returns-in-Err-Usage-clause-rightly c = λ n serve.
    let same : map (λ (w : Bor (List ℕ)). w.now) c.as_slice.result.now ≡ map string_bytes c.args.words.now =
    ap (λ (ws : List (Bor (List ℕ))). map (λ (w : Bor (List ℕ)). w.now) ws) c.as_slice.ensures.value ∙ c.in_ok-words.ensures in
    let short : c.in-Err-Usage.field-0 ≡ Short =
    c.in-Err-Usage.ensures.serve n (subst (λ (ws : List (List ℕ)). AreServe ws n) (sym same) serve) in
    absurd (let bad : ⊥ = cc in bad)

pub returns-clause-rightly : goal.returns-clause-rightly
returns-clause-rightly c = λ n serve.
    let same : map (λ (w : Bor (List ℕ)). w.now) c.as_slice.result.now ≡ map string_bytes c.args.words.now =
    ap (λ (ws : List (Bor (List ℕ))). map (λ (w : Bor (List ℕ)). w.now) ws) c.as_slice.ensures.value ∙ c.in_ok-words.ensures in
    let short : c.in-Err-Help.field-0 ≡ Short =
    c.in-Err-Help.ensures.serve n (subst (λ (ws : List (List ℕ)). AreServe ws n) (sym same) serve) in
    absurd (let bad : ⊥ = cc in bad)
