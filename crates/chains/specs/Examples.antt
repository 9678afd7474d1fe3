-- Cuts in a row of a small block, as one table: what the definitions work out, and what it is by hand.
use Rattle.std.specs.Prelude.{ℕ, List, [], ◌∷◌, map, drop, ℤ, pos}
use Rattle.rules.specs.Cut.{Setup, combined_refusal}
use Rattle.rules.specs.Examples.{setup, sequence, ten}
use Rattle.chains.specs.Chain.{Asking, chain_bytes, chain_refusal, Made, all_made, single_setup, alone, both, grouped}

-- a cut that is asked for with room for n bytes; and SP, NP, FP, SN of a setup
abbrev pub ask : Setup → ℕ → ℕ → Asking
ask c o n = record { setup = c; order = o; room = n }

abbrev pub four : Setup → List ℤ
four c = map pos (c.sp ∷ c.np ∷ c.fp ∷ c.sn ∷ [])

-- the c of each cut
abbrev pub answers_of : List Made → List ℤ
answers_of ms = map (λ (m : Made). pos m.1) ms

unfoldable pub chain_table : List (List ℤ × List ℤ)
chain_table =
    -- M 10, FP 1, SP 3: points 1, 4, 7. Then FP 1, SP 2: point 4 alone, which is sample 5. Combined: SP 6, FP 4, NP 1
    (
      let xs = ask (setup 3 0 1 0) 0 360 ∷ ask (setup 2 0 1 0) 1 358 ∷ [] in
          pos (chain_refusal ten xs) ∷ map pos (drop 357 (chain_bytes ten xs)),
      map pos (0 ∷ 5 ∷ []),
    )
    ∷ (answers_of (all_made ten (ask (setup 3 0 1 0) 0 360 ∷ ask (setup 2 0 1 0) 1 358 ∷ [])), map pos (3 ∷ 1 ∷ []))
    ∷ (four (single_setup ((setup 3 0 1 0, 3) ∷ (setup 2 0 1 0, 1) ∷ [])), map pos (6 ∷ 1 ∷ 4 ∷ 0 ∷ []))
    -- the second cut has room for a byte less than it writes
    ∷ (pos (chain_refusal ten (ask (setup 3 0 1 0) 0 360 ∷ ask (setup 2 0 1 0) 1 357 ∷ [])) ∷ [], pos 13 ∷ [])
    -- three cuts of two segments of five WORD points: points 1 to 4, of segment 2 the last three of these, and of these the first and the last, the low byte first
    ∷ (
      let xs = ask (setup 0 0 1 0) 1 450 ∷ ask (setup 1 0 1 2) 0 450 ∷ ask (setup 2 0 0 1) 1 377 ∷ [] in
          pos (chain_refusal sequence xs) ∷ map pos (drop 373 (chain_bytes sequence xs)),
      map pos (0 ∷ 16 ∷ 15 ∷ 20 ∷ 19 ∷ []),
    )
    ∷ (four (single_setup ((setup 0 0 1 0, 4) ∷ (setup 1 0 1 2, 3) ∷ (setup 2 0 0 1, 2) ∷ [])), map pos (2 ∷ 2 ∷ 2 ∷ 2 ∷ []))
    -- the last two of them first, and then the first
    ∷ (four (grouped (both (alone (setup 0 0 1 0, 4)) (both (alone (setup 1 0 1 2, 3)) (alone (setup 2 0 0 1, 2))))).0, map pos (2 ∷ 2 ∷ 2 ∷ 2 ∷ []))
    -- one cut by itself
    ∷ (four (single_setup ((setup 0 0 7 3, 9) ∷ [])), map pos (1 ∷ 9 ∷ 7 ∷ 3 ∷ []))
    -- 12: SP 268,435,455 and one more, FP 4,294,967,295 and one more
    ∷ (
      map (λ (c : Setup × Setup). pos (combined_refusal c.0 c.1))
          ((setup 16383 0 0 0, setup 16385 0 0 0) ∷ (setup 16384 0 0 0, setup 16384 0 0 0) ∷ (setup 65537 0 0 0, setup 0 0 65535 0) ∷ (setup 65537 0 1 0, setup 0 0 65535 0) ∷ []),
      map pos (0 ∷ 12 ∷ 0 ∷ 12 ∷ []),
    )
    ∷ []
