-- What a caller learns of a call, as the checker has it from the `ensures` of the call: `OpenCall`, `TextCall`, `LabelCall`. A theorem over these speaks
-- of the contract itself. `holding b s` is the slice b with the bytes s in it.
use mathlib.Core.List.{List}
use Prim.Native.Nat.{ℕ}
use contract.Lifetimes.{Lfts}
use denote.Ref.{Bor}
use Rattle.block.specs.declared.Opened.{Opened}
use Rattle.block.proofs.opening.open.Reads as open-reads
use Rattle.block.proofs.texts.user_text.Reads as text-reads
use Rattle.block.proofs.texts.label.Reads as label-reads

-- lent a block of the bytes s, `open` answered o
abbrev pub OpenCall : List ℕ → Opened → Type 0
OpenCall s o = (κs : Lfts 1) × (b : Bor (List ℕ)) × open-reads.Learnt κs (record b { now = s }, tt) o (record b { now = s }, tt)

-- lent the block, `user_text` returned the part r
abbrev pub TextCall : Bor (List ℕ) → Bor (List ℕ) → Type 0
TextCall block r = (κs : Lfts 1) × text-reads.Learnt κs (block, tt) r (block, tt)

-- lent the block and the fallback, `label` returned the part r
abbrev pub LabelCall : Bor (List ℕ) → Bor (List ℕ) → Bor (List ℕ) → Type 0
LabelCall block fallback r = (κs : Lfts 1) × label-reads.Learnt κs (block, (fallback, tt)) r (block, (fallback, tt))
