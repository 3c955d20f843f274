mod LogFrames
mod PoolFrames
