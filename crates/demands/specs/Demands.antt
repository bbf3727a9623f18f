-- The three demands, whole, in plain words; the name of the proof stands beside each. `demands` in proofs/Demands.antt is all three.
-- The signs used in definitions and contracts are explained in docs/NOTATION.md; the rules are docs/RULES.md. A demand is no rule: it is what
-- the rules are for.
--
-- What the words mean. A *chart* is a program drawn as nodes and arrows, with an *entry* where it starts; a node may make one *reference*
-- to memory, of one, two or four bytes. Memory is cut into *blocks*, and the cache holds a few of them, in sets. A reference *touches* the block of
-- its first byte, and then that of its last if that is another. Where the cache has the block, a touch *hits*; else it *misses* and costs more.
-- A *walk* begins at the entry, goes along arrows and may stop anywhere; every run of the program is one. The *plain machine* is the cache of
-- rules 4.1 to 4.7, a list for each set, which anybody can follow with a pencil; a block's *age* is its place in its list, and one that is not
-- there counts as the oldest.
--
-- A *table* marks the nodes that a walk can come to, and perhaps more; for each of them and each block it has two ages: when a walk comes
-- there, the block is no older than the one and no younger than the other. From them each touch of a node is called a hit or a miss, the second by
-- what the first leaves of them. Where they leave it open, it goes by the other blocks of its set that walks have touched since their last touch of its
-- block: if these are fewer than the set has ways it is called *kept*, and else unsure. The *analysis* makes such a table; the *checker* tries one that
-- anybody made. For each node the caller says how often a walk visits it, no less than a *floor* and no more than a *ceiling*; what a walk then costs
-- lies between the two *totals*. Or the caller says *facts* of a walk, each that its visits, times whole numbers, add up to no more than a limit, and hands
-- over a *certificate*, made by anybody, of what follows from them for the cost; where it holds, it comes to a *bound*. A caller lends *buffers*, as long as
-- it likes, for a function to read or to fill. Where a function cannot answer it gives a *refusal*, a number by rules 11.0 to 11.18 and 11.23 to 11.25, with
-- the node at fault.
--
-- 1. Ask it anything. Whatever bytes or numbers come, and however short a lent buffer is, the reader of charts, the analysis, the checker, the
--    totals, the function that tells whether a *deadline* in microseconds is met, the one that gives a certificate's bound, the *writer*, which makes a
--    chart's bytes from its fields, and the functions that tell a chart's fields and list its blocks give an answer or a refusal. It is written down
--    when each refusal is given, what it returns and what it leaves in the buffers. A caller checks nothing first.
--                                                                                        `demand1` in proofs/Demand1.antt
--
-- 2. It says as much as can be said. The checker passes a table exactly if it keeps rules 7.2 to 7.6, which are the equations of ages. Where the
--    analysis is not refused (and 1 says where it is), its table passes, and no table that passes says more. A tool that called
--    everything unsure would break this demand. What a touch is called kept by is worked out one block at a time, and is just what walks
--    do.                                                                                 `demand2` in proofs/Demand2.antt
--
-- 3. What it says is so. Take any table that the checker passes, whoever made it; any walk; and whatever the cache held before, as far as
--    the chart allows it. At every touch, where a hit was called the plain machine hits, and where a miss was called it misses; and of all
--    touches of one block that are called kept, one at most misses on the whole walk. And if a
--    miss costs no less than a hit, and each node has a floor and a ceiling that the walk keeps to, then the totals are given, and what
--    the plain machine pays on that walk is no less than the low one and no more than the high one.
--                                                                                        `demand3` in proofs/Demand3.antt
--
-- Beside the three stands what reader and writer are to each other: what was written reads back as what was given, and what was read is
-- written again as the same bytes (`RoundTrip`).                                        `round_trip` in proofs/RoundTrip.antt
--
-- And so does what a deadline that is met says: what the plain machine pays on a walk within floors and ceilings, as a figure in microseconds by the
-- clock that was given, is no later than the deadline allows, and no earlier (`OnTime`). `on-time` in proofs/OnTime.antt
--
-- And what the bound of a certificate says: what the plain machine pays on a walk that keeps the facts is no more than the bound of the high side, and no
-- less than that of the low one, whatever table passes and whatever the chart allows at the start. That a walk keeps them is for the caller to know. Floors
-- and ceilings are facts too, with certificates that come to the two totals (`Certified`). `certified` in proofs/Certified.antt
--
-- All of it speaks of the answers of functions, through what these promise: `chart::read` (`reading`), `chart::read_header` (`header_read`),
-- `analysis::analyse` (`analysed`), `checker::check` (`checked`), `totals::total` (`totals`), `deadline::judge` (`judged`), `certificate::bound`
-- (`bounded`), `writer::write` (`wrote`), `fields::read_node` (`node_read`) and `fields::read_blocks` (`blocks_read`). Each promise is an equation with
-- the definition of that name, so what is shown of the definition is shown of the function's answer.
use Rattle.demands.specs.Demand1.{Demand1}
use Rattle.demands.specs.Demand2.{Demand2}
use Rattle.demands.specs.Demand3.{Demand3}

pub record Demands : Type 0 where
  pub asked_anything : Demand1
  pub says_most : Demand2
  pub says_so : Demand3
