-- `interner::find_attribute` meets its contract: no node from the link on, along the chain, is the text. Assumes nothing.
use Rattle.interner.proofs.Attribute.{name_hash, attribute-keyed, attribute-told, attribute-found, attribute-missing}
use Rattle.interner.proofs.Reading.{places, stands, node_heads, counter_there}
use Rattle.store.proofs.Stores.{length-store}
use native.Mathlib.Omega.{arith}
use Rattle.definition.specs.Building.{attribute_text}
use Rattle.definition.specs.Numbering.{attribute_name}
use Rattle.store.specs.Store.{size, store}
use Rattle.store.specs.Regions.{NODE-HEADS}
use Rattle.interner.specs.Nodes.{hash_bytes}
use Rattle.interner.proofs.Finding.{looking_start, looking_low, looking_inside, looking_hit, looking_on, looking_less, looking_miss}
use Rattle.interner.proofs.find_attribute.Goals as goal

pub first_link-link-requires : goal.first_link-link-requires
first_link-link-requires c = let a = c.args in let q = c.requires in (q.0, node_heads a.job.now a.p.now q.1, c.hash_bytes-hash.ensures.1)

pub loop-k-init : goal.loop-k-init
loop-k-init c = let a = c.args in let q = c.requires in looking_start (size a.p.now NODE-HEADS) a.job.now (store a.p.now a.w.now) attribute_text (hash_bytes 1 attribute_name) q.3 (attribute-keyed (size a.p.now NODE-HEADS) a.job.now (store a.p.now a.w.now) q.2 q.3) c.hash_bytes-hash.result c.first_link-link.result (length-store a.p.now a.w.now NODE-HEADS) (node_heads a.job.now a.p.now q.1).two (name_hash c.attribute_name.result c.hash_bytes-hash.result c.attribute_name.ensures c.hash_bytes-hash.ensures.0) c.first_link-link.ensures

pub load-e-requires : goal.load-e-requires
load-e-requires c = let a = c.args in let q = c.requires in (q.0, (places a.job.now a.p.now q.1 _ (looking_low (size a.p.now NODE-HEADS) a.job.now (store a.p.now a.w.now) attribute_text (hash_bytes 1 attribute_name) q.3 (attribute-keyed (size a.p.now NODE-HEADS) a.job.now (store a.p.now a.w.now) q.2 q.3) c.loop-k.link c.in-Some.k c.in-Some.ensures c.loop-k.invariant)).nodes)

pub load-requires : goal.load-requires
load-requires c = let a = c.args in let q = c.requires in (q.0, (places a.job.now a.p.now q.1 _ (looking_inside (size a.p.now NODE-HEADS) a.job.now (store a.p.now a.w.now) attribute_text (hash_bytes 1 attribute_name) q.3 (attribute-keyed (size a.p.now NODE-HEADS) a.job.now (store a.p.now a.w.now) q.2 q.3) c.loop-k.link c.in-Some.k c.in-Some.ensures c.loop-k.invariant c.load-e.result c.load-e.ensures.word)).offsets)

pub is_attribute-requires : goal.is_attribute-requires
is_attribute-requires c = let a = c.args in let q = c.requires in stands a.job.now (store a.p.now a.w.now) c.load-e.result q.2 (looking_inside (size a.p.now NODE-HEADS) a.job.now (store a.p.now a.w.now) attribute_text (hash_bytes 1 attribute_name) q.3 (attribute-keyed (size a.p.now NODE-HEADS) a.job.now (store a.p.now a.w.now) q.2 q.3) c.loop-k.link c.in-Some.k c.in-Some.ensures c.loop-k.invariant c.load-e.result c.load-e.ensures.word) c.load.result c.load.ensures.word

pub returns-then-is_attribute : goal.returns-then-is_attribute
returns-then-is_attribute c = let a = c.args in let q = c.requires in attribute-found a.job.now a.p.now a.w.now q.1 q.3 c.in-Some.k (looking_hit (size a.p.now NODE-HEADS) a.job.now (store a.p.now a.w.now) attribute_text (hash_bytes 1 attribute_name) q.3 (attribute-keyed (size a.p.now NODE-HEADS) a.job.now (store a.p.now a.w.now) q.2 q.3) c.loop-k.link c.in-Some.k c.in-Some.ensures c.loop-k.invariant c.load-e.result c.load-e.ensures.word c.is_attribute.result (attribute-told a.job.now (store a.p.now a.w.now) c.load-e.result q.2 (looking_inside (size a.p.now NODE-HEADS) a.job.now (store a.p.now a.w.now) attribute_text (hash_bytes 1 attribute_name) q.3 (attribute-keyed (size a.p.now NODE-HEADS) a.job.now (store a.p.now a.w.now) q.2 q.3) c.loop-k.link c.in-Some.k c.in-Some.ensures c.loop-k.invariant c.load-e.result c.load-e.ensures.word) c.load.result c.load.ensures.word c.is_attribute.result c.is_attribute.ensures) c.if-is_attribute.true)

pub load-link-requires : goal.load-link-requires
load-link-requires c = let a = c.args in let q = c.requires in (q.0, (places a.job.now a.p.now q.1 _ (looking_low (size a.p.now NODE-HEADS) a.job.now (store a.p.now a.w.now) attribute_text (hash_bytes 1 attribute_name) q.3 (attribute-keyed (size a.p.now NODE-HEADS) a.job.now (store a.p.now a.w.now) q.2 q.3) c.loop-k.link c.in-Some.k c.in-Some.ensures c.loop-k.invariant)).links)

pub loop-k-smaller : goal.loop-k-smaller
loop-k-smaller c = let a = c.args in let q = c.requires in looking_less (size a.p.now NODE-HEADS) a.job.now (store a.p.now a.w.now) attribute_text (hash_bytes 1 attribute_name) q.3 (attribute-keyed (size a.p.now NODE-HEADS) a.job.now (store a.p.now a.w.now) q.2 q.3) c.loop-k.link c.in-Some.k c.in-Some.ensures c.loop-k.invariant c.load-e.result c.load-e.ensures.word c.is_attribute.result (attribute-told a.job.now (store a.p.now a.w.now) c.load-e.result q.2 (looking_inside (size a.p.now NODE-HEADS) a.job.now (store a.p.now a.w.now) attribute_text (hash_bytes 1 attribute_name) q.3 (attribute-keyed (size a.p.now NODE-HEADS) a.job.now (store a.p.now a.w.now) q.2 q.3) c.loop-k.link c.in-Some.k c.in-Some.ensures c.loop-k.invariant c.load-e.result c.load-e.ensures.word) c.load.result c.load.ensures.word c.is_attribute.result c.is_attribute.ensures) c.if-is_attribute.false c.load-link.result c.load-link.ensures.word

pub loop-k-preserved : goal.loop-k-preserved
loop-k-preserved c = let a = c.args in let q = c.requires in looking_on (size a.p.now NODE-HEADS) a.job.now (store a.p.now a.w.now) attribute_text (hash_bytes 1 attribute_name) q.3 (attribute-keyed (size a.p.now NODE-HEADS) a.job.now (store a.p.now a.w.now) q.2 q.3) c.loop-k.link c.in-Some.k c.in-Some.ensures c.loop-k.invariant c.load-e.result c.load-e.ensures.word c.is_attribute.result (attribute-told a.job.now (store a.p.now a.w.now) c.load-e.result q.2 (looking_inside (size a.p.now NODE-HEADS) a.job.now (store a.p.now a.w.now) attribute_text (hash_bytes 1 attribute_name) q.3 (attribute-keyed (size a.p.now NODE-HEADS) a.job.now (store a.p.now a.w.now) q.2 q.3) c.loop-k.link c.in-Some.k c.in-Some.ensures c.loop-k.invariant c.load-e.result c.load-e.ensures.word) c.load.result c.load.ensures.word c.is_attribute.result c.is_attribute.ensures) c.if-is_attribute.false c.load-link.result c.load-link.ensures.word

pub load-requires-2 : goal.load-requires-2
load-requires-2 c = let a = c.args in let q = c.requires in (q.0, counter_there a.job.now a.p.now q.1)

pub returns : goal.returns
returns c = let a = c.args in let q = c.requires in attribute-missing a.job.now a.p.now a.w.now q.1 q.3 (looking_miss (size a.p.now NODE-HEADS) a.job.now (store a.p.now a.w.now) attribute_text (hash_bytes 1 attribute_name) q.3 (attribute-keyed (size a.p.now NODE-HEADS) a.job.now (store a.p.now a.w.now) q.2 q.3) c.loop-k.link (omega (arith, c.in_default.ensures)) c.loop-k.invariant) c.load-2.result c.load-2.ensures.word
