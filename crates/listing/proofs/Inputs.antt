-- What a call of read left in the buffer (`behind-read`), and what the calls together took from the reader (`taken_more`).
use Rattle.std.proofs.Common.{◌≡◌, ℕ, zero, suc, ◌+◌, ◌≤◌, List, ◌++◌, length, take, drop, sym, ap, ◌∙◌, subst, append_assoc}
use Rattle.std.proofs.lemmas.List.{drop-take, take-append-le, take-append-drop, take-take, length-take-le}
use Rattle.std.proofs.Math.Seq.{drop-append_seam}
use Rattle.std.specs.Prelude.{Option, None, Some}
use Rattle.std.specs.Io.KnownBytes.{Consumes}
use borrow.Rule.Slice.PartMut.{put_mid, post_of}

-- 1 where a call moved bytes
abbrev pub some : Option ℕ → ℕ
some None = 0
some (Some zero) = 0
some (Some (suc n)) = 1

-- where the part from `at` on became ys, its first n bytes stand there
pub behind-read : (at k : ℕ) (l ys : List ℕ) (n : ℕ) → at ≤ length l → n ≤ length ys → drop at (take (at + n) (put_mid at k l ys)) ≡ take n ys
behind-read at k l ys n h w =
    let front : length (take at l) ≡ at = length-take-le at l h in
    drop-take at n (put_mid at k l ys) ∙ ap (take n) (subst (λ (m : ℕ). drop m (put_mid at k l ys) ≡ ys ++ post_of at k l) front (drop-append_seam (take at l) (ys ++ post_of at k l)))
    ∙ take-append-le n ys (post_of at k l) w

-- what was taken before stands in front of what a call took
front_and_more : (at n : ℕ) (l l' : List ℕ) → at ≤ n → n ≤ length l' → take at l' ≡ take at l → take n l' ≡ take at l ++ drop at (take n l')
front_and_more at n l l' h w e =
    sym (take-append-drop at (take n l')) ∙ ap (λ (x : List ℕ). x ++ drop at (take n l')) (take-take at n l' h ∙ e)

consumes_both : (a b c : Option (List ℕ)) (bs cs : List ℕ) → Consumes a b bs → Consumes b c cs → Consumes a c (bs ++ cs)
consumes_both None b c bs cs p q = tt
consumes_both (Some x) None c bs cs p q = absurd p
consumes_both (Some x) (Some y) None bs cs p q = absurd q
consumes_both (Some x) (Some y) (Some z) bs cs p q = p ∙ ap (λ (l : List ℕ). bs ++ l) q ∙ sym (append_assoc bs cs z)

pub taken_more : (a b c : Option (List ℕ)) (at n : ℕ) (l l' : List ℕ) → at ≤ n → n ≤ length l' → take at l' ≡ take at l → Consumes a b (take at l) → Consumes b c (drop at (take n l')) → Consumes a c (take n l')
taken_more a b c at n l l' h w e p q = subst (Consumes a c) (sym (front_and_more at n l l' h w e)) (consumes_both a b c _ _ p q)
