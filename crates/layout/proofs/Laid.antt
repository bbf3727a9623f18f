-- Marks, and rows of one kind, written over a lent list: what is written is what is read, and a row stored is a cell set.
use Prim.Native.Nat.{ℕ, ◌+◌, ◌*◌, ◌≤◌, ◌<◌}
use mathlib.Core.List.{List}
use mathlib.Core.Path.{◌≡◌, refl, sym, ap, ◌∙◌}
use native.Mathlib.Omega.{arith}
use lib.ListN.{length, get_or, set, take, drop, replicate, length-set, length-map, length-replicate, get_or-map}
use lib.Seq.{set-append_left, map-set_same}
use Rattle.lists.specs.Lists.{list_of, written}
use Rattle.lists.specs.Loops.{patch}
use Rattle.lists.proofs.Listed.{list_of-same, list_of-at, take-agree}
use Rattle.lists.proofs.Joined.{length-written, get_or-written, written-written, map-set, map-replicate, length-rows, get_or-rows, rows-replicate, row_in, rows-stored}
use Rattle.flow.specs.Flow.{Cell, blank, holds, cell_at}
use Rattle.layout.specs.Rows.{mark_of, marks_of, row_at}
use Rattle.layout.specs.Kinds.{CellFits, Fitted, Kind, kind_row, kind_rows}

-- ---- rows of one kind

pub row_fits : {X : Type 0} {Fits : X → Type 0} (K : Kind Fits) (c : Cell X) → CellFits Fits c → length (kind_row K c) ≡ K.count
row_fits K blank h = length-replicate K.count _
row_fits K (holds a) h = K.length_numbers a h

module _ {X : Type 0} {Fits : X → Type 0} (K : Kind Fits) {nodes : ℕ} {T : List (Cell X)} (s : Fitted Fits nodes T) where
  rowed : (n : ℕ) → length (kind_row K (cell_at T n)) ≡ K.count
  rowed n = row_fits K (cell_at T n) (s.cells_fit n)

  pub rows_long : length (kind_rows K T) ≡ nodes * K.count
  rows_long = length-rows (kind_row K) K.count blank T rowed ∙ ap (λ (n : ℕ). n * K.count) s.long

  pub over-rows-long : (l : List ℕ) → nodes * K.count ≤ length l → length (written (kind_rows K T) l) ≡ length l
  over-rows-long l h = length-written (kind_rows K T) l (omega (arith, rows_long))

  pub row_read : (l : List ℕ) (n : ℕ) → n < nodes → (c : Cell X) → cell_at T n ≡ c → (k : ℕ) → k < K.count
      → get_or (written (kind_rows K T) l) (n * K.count + k) 0 ≡ get_or (kind_row K c) k 0
  row_read l n h c e k i =
      get_or-written (kind_rows K T) l (n * K.count + k) 0 (omega (arith, rows_long, row_in n nodes K.count h))
      ∙ get_or-rows (kind_row K) K.count blank T rowed n k 0 (omega (arith, s.long)) i
      ∙ ap (λ (c : Cell X). get_or (kind_row K c) k 0) e

  pub row-whole : (l : List ℕ) (n : ℕ) → n < nodes → (c : Cell X) → cell_at T n ≡ c → row_at K.count (written (kind_rows K T) l) n ≡ kind_row K c
  row-whole l n h c e =
      list_of-at K.count _ (kind_row K c) 0 (ap (λ (c : Cell X). length (kind_row K c)) (sym e) ∙ rowed n) (row_read l n h c e)

  pub row-stored : (l : List ℕ) (t : ℕ) → t < nodes → (f : ℕ → ℕ) (c : Cell X) → kind_row K c ≡ list_of K.count f
      → patch (written (kind_rows K T) l) (t * K.count) K.count f ≡ written (kind_rows K (set T t c)) l
  row-stored l t h f c e = rows-stored (kind_row K) K.count blank T l rowed t (omega (arith, s.long)) f c e

-- A table written over another is written over what was under it.
pub rows-over : {X : Type 0} {Fits : X → Type 0} (K : Kind Fits) {nodes : ℕ} {T U : List (Cell X)} → Fitted Fits nodes T → Fitted Fits nodes U → (l : List ℕ)
    → written (kind_rows K U) (written (kind_rows K T) l) ≡ written (kind_rows K U) l
rows-over K {nodes} {T} {U} s u l = written-written (kind_rows K U) (kind_rows K T) l (rows_long K u ∙ sym (rows_long K s))

-- The table without a mark is zeros.
pub rows-blank : {X : Type 0} {Fits : X → Type 0} (K : Kind Fits) (nodes : ℕ) → kind_rows K (replicate nodes blank) ≡ replicate (nodes * K.count) 0
rows-blank K nodes = rows-replicate (kind_row K) K.count blank 0 nodes refl

-- Lists that agree in the used part have the same rows.
pub row-used : (count nodes : ℕ) (l m : List ℕ) → take (nodes * count) l ≡ take (nodes * count) m → (n : ℕ) → n < nodes → row_at count l n ≡ row_at count m n
row-used count nodes l m e n h =
    list_of-same count _ _ (λ k i. take-agree (nodes * count) l m 0 (n * count + k) (omega (arith, row_in n nodes count h)) e)

-- ---- marks

pub mark-plain : {X : Type 0} (c : Cell X) → mark_of c ≤ 1
mark-plain blank = omega arith
mark-plain (holds a) = omega arith

pub mark-zero : {X : Type 0} (c : Cell X) → mark_of c ≡ 0 → c ≡ blank
mark-zero blank e = refl
mark-zero (holds a) e = absurd (omega arith)

module _ {X : Type 0} {Fits : X → Type 0} {nodes : ℕ} {T : List (Cell X)} (s : Fitted Fits nodes T) where
  pub marks_long : length (marks_of T) ≡ nodes
  marks_long = length-map T mark_of ∙ s.long

  pub over-marks-long : (l : List ℕ) → nodes ≤ length l → length (written (marks_of T) l) ≡ length l
  over-marks-long l h = length-written (marks_of T) l (omega (arith, marks_long))

  pub mark-read : (l : List ℕ) (n : ℕ) → n < nodes → get_or (written (marks_of T) l) n 0 ≡ mark_of (cell_at T n)
  mark-read l n h = get_or-written (marks_of T) l n 0 (omega (arith, marks_long)) ∙ get_or-map mark_of T n blank

  pub mark-stored : (l : List ℕ) (t : ℕ) → t < nodes → (a : X) → set (written (marks_of T) l) t 1 ≡ written (marks_of (set T t (holds a))) l
  mark-stored l t h a =
      set-append_left (marks_of T) (drop (length (marks_of T)) l) t 1 (omega (arith, marks_long))
      ∙ (rw (map-set mark_of T t (holds a), length-set (marks_of T) t 1))

  -- A state put in the place of another keeps its mark.
  pub mark-stays : (l : List ℕ) (t : ℕ) (old a : X) → cell_at T t ≡ holds old → written (marks_of T) l ≡ written (marks_of (set T t (holds a))) l
  mark-stays l t old a stands =
      ap (λ (m : List ℕ). written m l) (sym (map-set_same mark_of T t (holds a) blank (ap mark_of (sym stands))))

pub marks-over : {X : Type 0} {Fits : X → Type 0} {nodes : ℕ} {T U : List (Cell X)} → Fitted Fits nodes T → Fitted Fits nodes U → (l : List ℕ)
    → written (marks_of U) (written (marks_of T) l) ≡ written (marks_of U) l
marks-over {X} {Fits} {nodes} {T} {U} s u l = written-written (marks_of U) (marks_of T) l (marks_long u ∙ sym (marks_long s))

pub marks-blank : (X : Type 0) (nodes : ℕ) → marks_of {X = X} (replicate nodes blank) ≡ replicate nodes 0
marks-blank X nodes = map-replicate mark_of nodes blank
