-- Two numbers that a call's contract allows for one input are equal, and so are the bytes left in the slices: `open_determined`, `point_determined`,
-- `fill_determined`, `crossing_determined`, `strip_determined`, `cut_determined`, `combined_determined`, `setup_read_determined`, `setup_write_determined`, `join_determined`, `narrow_determined`, `layout_determined`, `text_determined`, `label_determined`.
use mathlib.Core.Path.{◌≡◌, sym, ◌∙◌}
use mathlib.Core.List.{List}
use Prim.Native.Nat.{ℕ}
use lib.Ieee.{Float}
use Rattle.rules.specs.Cut.{Setup}
use Rattle.tessarquin.proofs.Learnt.{OpenCall, PointCall, FillCall, CrossingCall, StripCall, CutCall, CombinedCall, SetupReadCall, SetupWriteCall, JoinCall, NarrowCall, LayoutCall, TextCall, LabelCall}

pub open_determined : (s answer : List ℕ) (m n : ℕ) (x y : List ℕ) → OpenCall s answer m x → OpenCall s answer n y → (m ≡ n) × (x ≡ y)
open_determined s answer m n x y p q = (p.3.0 ∙ sym q.3.0, p.3.1 ∙ sym q.3.1)

pub point_determined : (s : List ℕ) (array segment k : ℕ) (answer : List ℕ) (m n : ℕ) (x y : List ℕ) → PointCall s array segment k answer m x → PointCall s array segment k answer n y → (m ≡ n) × (x ≡ y)
point_determined s array segment k answer m n x y p q = (p.3.0 ∙ sym q.3.0, p.3.1 ∙ sym q.3.1)

pub fill_determined : (s : List ℕ) (array segment : ℕ) (answer : List ℕ) (m n : ℕ) (x y : List ℕ) → FillCall s array segment answer m x → FillCall s array segment answer n y → (m ≡ n) × (x ≡ y)
fill_determined s array segment answer m n x y p q = (p.3.0 ∙ sym q.3.0, p.3.1 ∙ sym q.3.1)

pub crossing_determined : (s : List ℕ) (array segment : ℕ) (level : Float) (answer : List ℕ) (m n : ℕ) (x y : List ℕ) → CrossingCall s array segment level answer m x → CrossingCall s array segment level answer n y → (m ≡ n) × (x ≡ y)
crossing_determined s array segment level answer m n x y p q = (p.3.0 ∙ sym q.3.0, p.3.1 ∙ sym q.3.1)

-- the number, the slice of the block and the slice of c and the length
pub strip_determined : (s : List ℕ) (array segment w : ℕ) (least greatest answer : List ℕ) (m n : ℕ) (x y u v p q : List ℕ)
    → StripCall s array segment w least greatest answer m x u p → StripCall s array segment w least greatest answer n y v q → (m ≡ n) × (x ≡ y) × (u ≡ v) × (p ≡ q)
strip_determined s array segment w least greatest answer m n x y u v p q c d =
    (c.5.0 ∙ sym d.5.0, c.5.1.0 ∙ sym d.5.1.0, c.5.1.1.0 ∙ sym d.5.1.1.0, c.5.1.1.1 ∙ sym d.5.1.1.1)

pub cut_determined : (s : List ℕ) (c : Setup) (order : ℕ) (out answer : List ℕ) (m n : ℕ) (x y u v : List ℕ) → CutCall s c order out answer m x u → CutCall s c order out answer n y v → (m ≡ n) × (x ≡ y) × (u ≡ v)
cut_determined s c order out answer m n x y u v p q = (p.4.0 ∙ sym q.4.0, p.4.1.0 ∙ sym q.4.1.0, p.4.1.1 ∙ sym q.4.1.1)

pub combined_determined : (a b : Setup) (c : ℕ) (answer : List ℕ) (m n : ℕ) (x y : List ℕ) → CombinedCall a b c answer m x → CombinedCall a b c answer n y → (m ≡ n) × (x ≡ y)
combined_determined a b c answer m n x y p q = (p.2.0 ∙ sym q.2.0, p.2.1 ∙ sym q.2.1)

pub setup_read_determined : (t answer : List ℕ) (m n : ℕ) (x y : List ℕ) → SetupReadCall t answer m x → SetupReadCall t answer n y → (m ≡ n) × (x ≡ y)
setup_read_determined t answer m n x y p q = (p.3.0 ∙ sym q.3.0, p.3.1 ∙ sym q.3.1)

pub setup_write_determined : (c : Setup) (out answer : List ℕ) (m n : ℕ) (x y u v : List ℕ) → SetupWriteCall c out answer m x u → SetupWriteCall c out answer n y v → (m ≡ n) × (x ≡ y) × (u ≡ v)
setup_write_determined c out answer m n x y u v p q = (p.3.0 ∙ sym q.3.0, p.3.1.0 ∙ sym q.3.1.0, p.3.1.1 ∙ sym q.3.1.1)

pub join_determined : (s out answer : List ℕ) (m n : ℕ) (x y u v : List ℕ) → JoinCall s out answer m x u → JoinCall s out answer n y v → (m ≡ n) × (x ≡ y) × (u ≡ v)
join_determined s out answer m n x y u v p q = (p.4.0 ∙ sym q.4.0, p.4.1.0 ∙ sym q.4.1.0, p.4.1.1 ∙ sym q.4.1.1)

pub narrow_determined : (s out answer : List ℕ) (m n : ℕ) (x y u v : List ℕ) → NarrowCall s out answer m x u → NarrowCall s out answer n y v → (m ≡ n) × (x ≡ y) × (u ≡ v)
narrow_determined s out answer m n x y u v p q = (p.4.0 ∙ sym q.4.0, p.4.1.0 ∙ sym q.4.1.0, p.4.1.1 ∙ sym q.4.1.1)

pub layout_determined : (s answer : List ℕ) (m n : ℕ) (x y : List ℕ) → LayoutCall s answer m x → LayoutCall s answer n y → (m ≡ n) × (x ≡ y)
layout_determined s answer m n x y p q = (p.3.0 ∙ sym q.3.0, p.3.1 ∙ sym q.3.1)

pub text_determined : (s answer : List ℕ) (m n : ℕ) (x y : List ℕ) → TextCall s answer m x → TextCall s answer n y → (m ≡ n) × (x ≡ y)
text_determined s answer m n x y p q = (p.3.0 ∙ sym q.3.0, p.3.1 ∙ sym q.3.1)

pub label_determined : (s fallback answer : List ℕ) (m n : ℕ) (x y : List ℕ) → LabelCall s fallback answer m x → LabelCall s fallback answer n y → (m ≡ n) × (x ≡ y)
label_determined s fallback answer m n x y p q = (p.4.0 ∙ sym q.4.0, p.4.1 ∙ sym q.4.1)
