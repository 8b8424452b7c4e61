pub mod Slim
