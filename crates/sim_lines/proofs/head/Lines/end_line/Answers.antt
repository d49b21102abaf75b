use Rattle.std.proofs.Common.{◌≡◌, ℕ, List, [], ◌∷◌, ◌++◌, length, take, drop, refl, sym, ◌∙◌, ap, append_assoc, take-append-drop, take_all, arith}
use Rattle.sim_lines.proofs.head.Lines.end_line.Goals as goal

both : (a b : List ℕ) (x y : List ℕ) → a ≡ x → b ≡ y → ◌≡◌ {A = List ℕ × List ℕ} (a, b) (x, y)
both a b x y p q = ap (λ (k : List ℕ). (k, b)) p ∙ ap (λ (k : List ℕ). (x, k)) q

none_left : (xs : List ℕ) → drop (length xs) xs ≡ []
none_left [] = refl
none_left (x ∷ xs) = none_left xs

all_whole : (all text : List ℕ) (p : List ℕ × List ℕ) (start n : ℕ) → all ≡ text ++ 10 ∷ [] → (take start text, drop start text) ≡ p → n ≡ length all → ◌≡◌ {A = List ℕ × List ℕ} (take n all, drop n all) (p.0 ++ (p.1 ++ 10 ∷ []), [])
all_whole all text p start n a v e =
    let parts : text ≡ p.0 ++ p.1 = sym (take-append-drop start text) ∙ ap (λ (q : List ℕ × List ℕ). q.0 ++ q.1) v in
    rw e (both _ _ _ _ (take_all (length all) all (omega arith) ∙ a ∙ ap (λ xs. xs ++ 10 ∷ []) parts ∙ append_assoc p.0 p.1 (10 ∷ [])) (none_left all))

pub returns : goal.returns
returns c =
    let n : c.len-self-inside.result ≡ length c.push.new.self.items = c.len-self-inside.ensures ∙ c.push.new.self.ok.0 in
    all_whole c.push.new.self.items c.self.inside.text.items c.args.self.now c.self.inside.start c.len-self-inside.result c.in_ok-push.ensures.items c.self.view_is n
