-- What accepted calls of `strip` answer and leave, by their contract: its number is that of the rules, its three numbers and what it wrote are those of the strip
-- (`strip_told`, `strip_wrote`); the least of all leasts is the segment's, and the greatest likewise (`least_of_all`, `greatest_of_all`); and where W is even, the
-- call for W/2 answers the same and leaves the neighbouring pairs joined (`half_call`).
use mathlib.Core.Path.{◌≡◌, sym, ap, ◌∙◌}
use mathlib.Core.List.{List}
use Prim.Native.Nat.{ℕ, ◌+◌, ◌/◌, ◌%◌}
use lib.IntN.{ℤ}
use lib.ListN.{length, take, drop}
use lib.Seq.{take_at}
use Rattle.rules.specs.Wave.{points}
use Rattle.rules.specs.Rules.{opened}
use Rattle.rules.specs.Points.{sample}
use Rattle.columns.specs.Columns.{lesser, greater, least, greatest, run, pairs}
use Rattle.strips.specs.declared.Drawn.{Drawn}
use Rattle.strips.specs.Strips.{Strip, strip_of, halved, strip_refusal}
use Rattle.strips.specs.Answers.{drawn_by, leasts_left, greatests_left}
use Rattle.strips.proofs.Strips.{strip-count, strip-least, strip-greatest, strip-halved, half_accepted}
use Rattle.strips.proofs.Calls.{StripCall, drawn_is, left_is, drawn_number}

module _ (s : List ℕ) (a n w : ℕ) (low high : List ℤ) (d : Drawn) (x u : List ℤ) (call : StripCall s a n w low high d x u) (z : d.refusal ≡ 0) where
  abbrev drawn : Strip
  drawn = strip_of (opened s) a n w

  pub strip-accepts : strip_refusal s a n w (length low) (length high) ≡ 0
  strip-accepts = sym (drawn_number s a n w (length low) (length high)) ∙ ap (λ (x : Drawn). x.refusal) (sym call.4.0) ∙ z

  pub strip_told : d ≡ drawn_by 0 (strip_of (opened s) a n w)
  strip_told = call.4.0 ∙ sym (drawn_is s a n w (length low) (length high) strip-accepts)

  -- the first W numbers of each slice
  pub strip_wrote : (take w x ≡ (strip_of (opened s) a n w).leasts) × (take w u ≡ (strip_of (opened s) a n w).greatests)
  unfolding leasts_left greatests_left
  strip_wrote =
      let c = strip-count s a n w (length low) (length high) strip-accepts in (
        ap (take w) (call.4.1.0 ∙ sym (left_is s a n w (length low) (length high) strip-accepts drawn.leasts low)) ∙ take_at drawn.leasts (drop (0 + length drawn.leasts) low) w c.0,
        ap (take w) (call.4.1.1 ∙ sym (left_is s a n w (length low) (length high) strip-accepts drawn.greatests high)) ∙ take_at drawn.greatests (drop (0 + length drawn.greatests) high) w c.1,
      )

  pub least_of_all : least (take w x) ≡ least (run (sample (opened s) a n) 0 (points (opened s).head))
  least_of_all = ap least strip_wrote.0 ∙ strip-least s a n w (length low) (length high) strip-accepts

  pub greatest_of_all : greatest (take w u) ≡ greatest (run (sample (opened s) a n) 0 (points (opened s).head))
  greatest_of_all = ap greatest strip_wrote.1 ∙ strip-greatest s a n w (length low) (length high) strip-accepts

-- where W is even, the call for W/2 columns of the same segment, lent as much
pub half_call : (s : List ℕ) (a n w : ℕ) (low high : List ℤ) (d : Drawn) (x u : List ℤ) → StripCall s a n w low high d x u → d.refusal ≡ 0 → w % 2 ≡ 0 → (e : Drawn) (y v : List ℤ) → StripCall s a n (w / 2) low high e y v
    → (e ≡ d) × (take (w / 2) y ≡ pairs lesser (take w x)) × (take (w / 2) v ≡ pairs greater (take w u))
unfolding halved
half_call s a n w low high d x u call z even e y v half =
    let taken = strip-accepts s a n w low high d x u call z in
    let joined = strip-halved s a n w (length low) (length high) taken even in
    let accepted : e.refusal ≡ 0 = ap (λ (x : Drawn). x.refusal) half.4.0 ∙ drawn_number s a n (w / 2) (length low) (length high) ∙ half_accepted s a n w (length low) (length high) taken even in
    let wrote = strip_wrote s a n w low high d x u call z in
    let halves = strip_wrote s a n (w / 2) low high e y v half accepted in (
      strip_told s a n (w / 2) low high e y v half accepted ∙ ap (drawn_by 0) (sym joined) ∙ sym (strip_told s a n w low high d x u call z),
      halves.0 ∙ ap (λ (t : Strip). t.leasts) (sym joined) ∙ ap (pairs lesser) (sym wrote.0),
      halves.1 ∙ ap (λ (t : Strip). t.greatests) (sym joined) ∙ ap (pairs greater) (sym wrote.1),
    )
