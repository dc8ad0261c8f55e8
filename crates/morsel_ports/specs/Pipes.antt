-- How far a pipe is, and which ends it has.
use Rattle.std.specs.Prelude.{ℕ, Bool, true, false, List, [], ◌∷◌, length}
use Rattle.morsel_ports.specs.declared.pipe.PhysicalPipe.{PhysicalPipe}
use Rattle.morsel_ports.specs.declared.pipe.PhysicalPipe.TheVariants.{Uninit, SerialReceiver, ParallelReceiver, NeedsLinearizer, NeedsDistributor, Initialized}

-- neither node has its ends; the next one has one, or several; or both have them: of the same lanes, to be merged, or to be spread over
pub data PipeStage : Type 0 where
  Unopened : PipeStage
  HalfSerial : PipeStage
  HalfParallel : PipeStage
  Direct : PipeStage
  ToMerge : PipeStage
  ToSpread : PipeStage

abbrev pub stage_of : {L J B G K S R X Y : Type 0} → PhysicalPipe L J B G K S R X Y → PipeStage
stage_of (Uninit pipelines) = Unopened
stage_of (SerialReceiver pipelines sender) = HalfSerial
stage_of (ParallelReceiver senders) = HalfParallel
stage_of (NeedsLinearizer receivers sender) = ToMerge
stage_of (NeedsDistributor receiver senders) = ToSpread
stage_of Initialized = Direct

-- the sending ends that the pipe has, in order of lanes
abbrev pub pipe_senders : {L J B G K S R X Y : Type 0} → PhysicalPipe L J B G K S R X Y → List S
pipe_senders (Uninit pipelines) = []
pipe_senders (SerialReceiver pipelines sender) = sender ∷ []
pipe_senders (ParallelReceiver senders) = senders.items
pipe_senders (NeedsLinearizer receivers sender) = sender ∷ []
pipe_senders (NeedsDistributor receiver senders) = senders.items
pipe_senders Initialized = []

-- the receiving ends that it has, in order of lanes
abbrev pub pipe_receivers : {L J B G K S R X Y : Type 0} → PhysicalPipe L J B G K S R X Y → List R
pipe_receivers (Uninit pipelines) = []
pipe_receivers (SerialReceiver pipelines sender) = []
pipe_receivers (ParallelReceiver senders) = []
pipe_receivers (NeedsLinearizer receivers sender) = receivers.items
pipe_receivers (NeedsDistributor receiver senders) = receiver ∷ []
pipe_receivers Initialized = []

-- the number of pipelines, as far as it is still needed
abbrev pub pipelines_of : {L J B G K S R X Y : Type 0} → PhysicalPipe L J B G K S R X Y → ℕ
pipelines_of (Uninit pipelines) = pipelines
pipelines_of (SerialReceiver pipelines sender) = pipelines
pipelines_of (ParallelReceiver senders) = length senders.items
pipelines_of (NeedsLinearizer receivers sender) = length receivers.items
pipelines_of (NeedsDistributor receiver senders) = length senders.items
pipelines_of Initialized = 0

-- whether neither node has its ends
abbrev pub is_uninit : PipeStage → Bool
is_uninit Unopened = true
is_uninit HalfSerial = false
is_uninit HalfParallel = false
is_uninit Direct = false
is_uninit ToMerge = false
is_uninit ToSpread = false

-- whether the next node alone has its ends
abbrev pub is_half : PipeStage → Bool
is_half Unopened = false
is_half HalfSerial = true
is_half HalfParallel = true
is_half Direct = false
is_half ToMerge = false
is_half ToSpread = false

-- whether the next node has one end, and the node before it has none yet
abbrev pub is_receiver_serial : PipeStage → Bool
is_receiver_serial Unopened = false
is_receiver_serial HalfSerial = true
is_receiver_serial HalfParallel = false
is_receiver_serial Direct = false
is_receiver_serial ToMerge = false
is_receiver_serial ToSpread = false

-- whether both have the ends of the same lanes
abbrev pub is_direct : PipeStage → Bool
is_direct Unopened = false
is_direct HalfSerial = false
is_direct HalfParallel = false
is_direct Direct = true
is_direct ToMerge = false
is_direct ToSpread = false

-- whether both nodes have their ends
abbrev pub is_made : PipeStage → Bool
is_made Unopened = false
is_made HalfSerial = false
is_made HalfParallel = false
is_made Direct = true
is_made ToMerge = true
is_made ToSpread = true
